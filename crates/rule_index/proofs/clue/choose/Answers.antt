-- `choose` takes the value, or leaves the choice.
use native.Mathlib.Omega.{arith}
use mathlib.Core.Path.{refl, sym, ◌∙◌}
use mathlib.Core.Logic.{inl, inr}
use Rattle.text.proofs.Tests.{or_false_l, or_is}
use Rattle.text_hash.proofs.Mixing.{place_within}
use Rattle.rule_index.proofs.clue.choose.Goals as goal

pub place_at-p-requires : goal.place_at-p-requires
place_at-p-requires c = (c.requires.0, c.requires.2)

pub offset_bounds-uses-p : goal.offset_bounds-uses-p
offset_bounds-uses-p c = omega (arith, place_within _ _ 512 _ c.place_at-p.ensures (omega arith))

pub bounds-uses-p : goal.bounds-uses-p
bounds-uses-p c =
    omega (arith, c.requires.1, place_within _ _ 512 _ c.place_at-p.ensures (omega arith))

pub overflow_cast-n : goal.overflow_cast-n
overflow_cast-n c = omega (arith, c.type_inv.uses (c.place_at-p.result))

pub returns-then-is_star-c : goal.returns-then-is_star-c
returns-then-is_star-c c = inl refl

pub returns : goal.returns
returns c =
    inr (refl, sym c.is_star-is_star.ensures ∙ or_false_l _ _ (sym (or_is _ _) ∙ c.if-is_star-c.false))
