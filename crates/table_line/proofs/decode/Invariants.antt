-- `decode` stores the bytes of the leading pairs of digits. The invariant: those of the rest are pending.
use Prim.Native.Nat.{◌+◌, ◌*◌}
use lib.ListN.{drop}
use Rattle.text.proofs.Filling.{Pending}
use Rattle.table_line.specs.Decoding.{digits}
use Rattle.table_line.proofs.decode.Given as goal

-- the bytes of the digits from pair k on are still to be stored, behind k others
abbrev pub invariant-loop-k : goal.invariant-loop-k
invariant-loop-k l = Pending l.initial.out l.at (digits (drop l.from l.text)) l.out (l.at + l.k) (digits (drop (l.from + 2 * l.k) l.text))
