use mathlib.Core.Path.{sym, ap, ◌∙◌}
use mathlib.Core.Bool.{not}
use Rattle.text.proofs.Tests.{or_l}
use Rattle.verdict_compare.proofs.Keys.{pass_first, pass_cover, pass_agree}
use Rattle.verdict_compare.proofs.place.Key.passes.Goals.{then-is_wild-via-then-is_wild, then-is_wild-via-else-is_wild+then-give}
use Rattle.verdict_compare.proofs.place.Key.passes.Goals as goal

pub returns-then-is_wild : goal.returns-then-is_wild
returns-then-is_wild c =
    elim c.then-is_wild.branch [
      | then-is_wild-via-then-is_wild w ↦ sym (or_l _ _ (sym c.is_wild.ensures ∙ w.if-is_wild.true))
      | then-is_wild-via-else-is_wild+then-give w ↦
          sym (pass_first _ _ _ (sym c.is_wild.ensures ∙ w.if-is_wild.false) c.args.cover (sym w.give.ensures ∙ w.if-give.true))
    ]

pub returns-then-cover : goal.returns-then-cover
returns-then-cover c =
    c.give-then-cover.ensures ∙ sym (pass_cover _ _ _ (sym c.is_wild.ensures ∙ c.if-is_wild.false) c.args.cover
    (sym c.give.ensures ∙ c.if-give.false) c.if-cover.true)

pub returns : goal.returns
returns c =
    ap not c.answer.ensures ∙ sym (pass_agree _ _ _ (sym c.is_wild.ensures ∙ c.if-is_wild.false) c.args.cover
    (sym c.give.ensures ∙ c.if-give.false) c.if-cover.false)
