use mathlib.Core.Path.{sym, ◌∙◌}
use Rattle.text.specs.Test.{all, only}
use Rattle.verdict_compare.proofs.Keys.{all_pass, all_fail}
use Rattle.verdict_compare.proofs.place.Keys.pass.Goals as goal

pub returns-then-not-passes : goal.returns-then-not-passes
returns-then-not-passes c =
    sym (c.loop-k.invariant ∙ rw c.in-Some.ensures.steps (all_fail _ _ _ (sym c.passes.ensures ∙ c.if-not-passes.true)))

pub loop-k-preserved : goal.loop-k-preserved
loop-k-preserved c =
    c.loop-k.invariant ∙ rw c.in-Some.ensures.steps (all_pass _ _ _ (sym c.passes.ensures ∙ c.if-not-passes.false))

pub returns : goal.returns
unfolding all only
returns c = sym (c.loop-k.invariant ∙ rw c.in-None.ensures.steps.0)
