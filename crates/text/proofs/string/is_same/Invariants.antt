-- `is_same` equals its definition. The invariant: the rests are the same exactly if the strings are.
use Rattle.std.proofs.Common.{◌≡◌, length, drop}
use Rattle.text.specs.String.{same}
use Rattle.text.proofs.string.is_same.Given as goal

-- a and b have one length and are the same before i, so what follows there decides.
abbrev pub invariant-loop-i : goal.invariant-loop-i
invariant-loop-i l = (length l.a ≡ length l.b) × (same l.a l.b ≡ same (drop l.i l.a) (drop l.i l.b))
