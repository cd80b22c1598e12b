-- `count_lines` counts line after line.
use Prim.Native.Nat.{◌-◌}
use lib.ListN.{length}
use Rattle.season_count.proofs.Looping.{Going}
use Rattle.season_count.proofs.lines.count_lines.Given as goal

-- the lines before `from` are counted
abbrev pub invariant-loop-from : goal.invariant-loop-from
invariant-loop-from l = Going l.table l.text l.initial.tally l.from l.run l.tally

abbrev pub decreases-loop-from : goal.decreases-loop-from
decreases-loop-from l = length l.text - l.from
