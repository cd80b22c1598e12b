use mathlib.Core.Path.{sym, ◌∙◌}
use Rattle.text.specs.Test.{any}
use Rattle.verdict_compare.proofs.Keys.{any_hit, any_miss}
use Rattle.verdict_compare.proofs.place.Keys.answer.Goals as goal

pub returns-then-answers : goal.returns-then-answers
returns-then-answers c =
    sym (c.loop-j.invariant ∙ rw c.in-Some.ensures.steps (any_hit _ _ _ (sym c.answers.ensures ∙ c.if-answers.true)))

pub loop-j-preserved : goal.loop-j-preserved
loop-j-preserved c =
    c.loop-j.invariant ∙ rw c.in-Some.ensures.steps (any_miss _ _ _ (sym c.answers.ensures ∙ c.if-answers.false))

pub returns : goal.returns
unfolding any
returns c = sym (c.loop-j.invariant ∙ rw c.in-None.ensures.steps.0)
