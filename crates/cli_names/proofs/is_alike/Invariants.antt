-- `is_alike` equals its definition. The invariant: what is left to compare decides.
use mathlib.Core.Path.{◌≡◌}
use Prim.Native.Nat.{◌-◌, ◌≤◌}
use lib.ListN.{length}
use Rattle.cli_names.specs.Names.{alike}
use Rattle.cli_names.proofs.Letters.{rest}
use Rattle.cli_names.proofs.is_alike.Given as goal

-- a and b have the length n and are alike before i, so what follows there decides.
abbrev pub invariant-loop-i : goal.invariant-loop-i
invariant-loop-i l = (l.n ≡ length l.a) × (l.n ≡ length l.b) × (l.i ≤ l.n) × (alike l.a l.b ≡ rest l.a l.b l.i)

abbrev pub decreases-loop-i : goal.decreases-loop-i
decreases-loop-i l = l.n - l.i
