-- `load` equals its definition. The invariant: what the rows so far told is held, and the rest is to be judged.
use Prim.Native.Nat.{◌-◌}
use lib.ListN.{length}
use Rattle.table_keep.specs.Held.{member_keys}
use Rattle.table_keep_rule.specs.Kept.{id_keys}
use Rattle.table_load.proofs.Loading.{Going}
use Rattle.table_load.proofs.load.Given as goal

-- what the lines so far told is held in the table, and the rest of the text is still to be judged
abbrev pub invariant-loop-from : goal.invariant-loop-from
invariant-loop-from l = Going l.text l.table.frames l.table.counts l.table.groups l.table.users
    l.table.owners l.table.starts l.table.holders l.sets.names.sorted l.sets.members l.sets.ids l.from l.table.used l.line

abbrev pub decreases-loop-from : goal.decreases-loop-from
decreases-loop-from l = length l.text - l.from
