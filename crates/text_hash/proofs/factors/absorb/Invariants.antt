use Prim.Native.Nat.{◌<◌}
use Rattle.text_hash.proofs.factors.absorb.Given as goal

-- Both factors fit 31 bits.
abbrev pub invariant-loop-i : goal.invariant-loop-i
invariant-loop-i l = (l.x < 2147483648) × (l.y < 2147483648)
