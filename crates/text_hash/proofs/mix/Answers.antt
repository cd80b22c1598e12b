use native.Mathlib.Omega.{arith}
use Prim.Native.Nat.{◌+◌, ◌-◌}
use Rattle.std.proofs.Common.{◌≡◌}
use Rattle.text_hash.specs.Mix.{mix}
use Rattle.text_hash.proofs.Mixing.{product, mix_turn, mix_end}
use Rattle.text_hash.proofs.mix.Goals as goal

pub loop-k-init : goal.loop-k-init
unfolding mix
loop-k-init c = let z : c.count-k-end.result - 0 ≡ c.count-k-end.result = omega arith in (omega arith, c.requires.1, rw (z, c.count-k-end.ensures))

pub overflow_mul-x : goal.overflow_mul-x
overflow_mul-x c =
    omega (
      arith,
      product (c.loop-k.x + c.at-w.result) c.args.s.first (omega (arith, c.at-w.ensures.1)) c.requires.0.0,
    )

pub overflow_mul-y : goal.overflow_mul-y
overflow_mul-y c =
    omega (
      arith,
      product (c.loop-k.y + c.middle-x.result) c.args.s.second (omega (arith, c.middle-x.ensures)) c.requires.0.1,
    )

pub loop-k-preserved : goal.loop-k-preserved
loop-k-preserved c = let e : c.count-k-end.result - (c.loop-k.k + 1) ≡ c.count-k-end.result - c.loop-k.k - 1 = omega arith in (
  omega (arith, c.middle-x.ensures),
  omega (arith, c.middle-y.ensures),
  rw e (mix_turn c.args.s c.args.t.now (c.count-k-end.result - c.loop-k.k) c.loop-k.k c.loop-k.x c.loop-k.y c.at-w.result _ _ _ (omega arith)
      c.at-w.ensures.0 c.middle-x.ensures c.middle-y.ensures c.loop-k.invariant.2),
)

pub returns : goal.returns
returns c = mix_end c.args.s c.args.t.now (c.count-k-end.result - c.loop-k.k) _ _ _ _ (λ l. omega (arith, l, c.loop-k-test.false)) c.loop-k.invariant.2
