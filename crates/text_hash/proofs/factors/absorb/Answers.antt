use native.Mathlib.Omega.{arith}
use Prim.Native.Nat.{◌+◌}
use Rattle.text_hash.proofs.Mixing.{product}
use Rattle.text_hash.proofs.factors.absorb.Goals as goal

pub overflow_mul-x : goal.overflow_mul-x
overflow_mul-x c =
    omega (
      arith,
      product (c.loop-i.x + c.at.result) c.loop-i.y (omega (arith, c.at.ensures.1)) c.loop-i.invariant.1,
    )

pub overflow_mul-y : goal.overflow_mul-y
overflow_mul-y c =
    omega (arith, product (c.loop-i.y + c.at-in-loop-i.result) c.loop-i.x (omega (arith, c.at-in-loop-i.ensures.1)) c.loop-i.invariant.0)
