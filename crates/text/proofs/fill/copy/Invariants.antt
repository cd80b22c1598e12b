-- `copy` stores the bytes and nothing else. The invariant: what is left of them is pending.
use Rattle.std.proofs.Common.{◌+◌, drop}
use Rattle.text.proofs.Filling.{Pending}
use Rattle.text.proofs.fill.copy.Given as goal

-- The bytes before i are stored from `at` on; those from i on are still to be.
abbrev pub invariant-loop-i : goal.invariant-loop-i
invariant-loop-i l = Pending l.initial.out l.at l.s l.out (l.at + l.i) (drop l.i l.s)
