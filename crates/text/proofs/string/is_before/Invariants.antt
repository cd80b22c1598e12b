-- `is_before` equals its definition. The invariant: the rests are in the order of the strings.
use Rattle.std.proofs.Common.{◌≡◌, drop}
use Rattle.text.specs.String.{before}
use Rattle.text.proofs.string.is_before.Given as goal

-- a and b are the same before i, so what follows there decides.
abbrev pub invariant-loop-i : goal.invariant-loop-i
invariant-loop-i l = before l.a l.b ≡ before (drop l.i l.a) (drop l.i l.b)
