-- `place` equals its definition.
use native.Mathlib.Omega.{arith}
use mathlib.Core.Path.{ap, ◌∙◌}
use Prim.Native.Nat.{ℕ, ◌*◌, ◌/◌}
use Rattle.text_hash.specs.Mix.{middle, mix, place_of}
use Rattle.text_hash.proofs.Mixing.{product, middle_small, square_fits, place_fits}
use Rattle.text_hash.proofs.place.Goals as goal

pub overflow_mul-s : goal.overflow_mul-s
overflow_mul-s c =
    omega (arith, product c.args.s.first c.args.s.second (omega (arith, c.requires.0.0)) c.requires.0.1)

pub mix-h-requires : goal.mix-h-requires
mix-h-requires c =
    (c.requires.0, omega (arith, c.middle-from.ensures, middle_small (c.args.s.first * c.args.s.second)))

pub overflow_mul-h : goal.overflow_mul-h
overflow_mul-h c =
    omega (
      arith,
      square_fits c.args.s c.args.t.now _
          (c.mix-h.ensures ∙ ap (λ (y : ℕ). mix c.args.s y c.args.t.now) c.middle-from.ensures),
    )

pub overflow_mul-result : goal.overflow_mul-result
overflow_mul-result c =
    omega (arith, place_fits (c.mix-h.result * c.mix-h.result) c.args.size _ c.middle.ensures c.requires.1)

pub returns : goal.returns
unfolding place_of
returns c =
    ap (λ (y : ℕ). y * c.args.size / 4294967296) c.middle.ensures ∙ ap
    (λ (y : ℕ). middle (y * y) * c.args.size / 4294967296)
    (c.mix-h.ensures ∙ ap (λ (y : ℕ). mix c.args.s y c.args.t.now) c.middle-from.ensures)
