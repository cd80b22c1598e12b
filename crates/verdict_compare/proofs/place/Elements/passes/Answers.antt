use mathlib.Core.Path.{sym, ◌∙◌}
use Rattle.verdict_compare.proofs.Steps.{ended, starts, there, split, fewer}
use Rattle.verdict_compare.proofs.Elems.{step_end, step_out, step_fail, step_turn}
use Rattle.verdict_compare.proofs.place.Elements.passes.Goals as goal

pub returns-in_default-first : goal.returns-in_default-first
returns-in_default-first c =
    sym (c.loop-a.invariant ∙ rw ((there c.loop-a.own _ c.in-Some.ensures).1, ended c.loop-a.asked c.in_default-first.ensures)
    (step_out _ _ c.args.cover))

pub returns-then-not-passes : goal.returns-then-not-passes
returns-then-not-passes c =
    sym (c.loop-a.invariant
    ∙ rw ((there c.loop-a.own _ c.in-Some.ensures).1, (there c.loop-a.asked _ c.in-Some-first.ensures).1)
    (step_fail _ _ _ _ c.args.cover (sym c.passes.ensures ∙ c.if-not-passes.true)))

pub rest-own-requires : goal.rest-own-requires
rest-own-requires c = starts c.loop-a.own _ c.in-Some.ensures

pub rest-asked-requires : goal.rest-asked-requires
rest-asked-requires c = starts c.loop-a.asked _ c.in-Some-first.ensures

pub loop-a-smaller : goal.loop-a-smaller
loop-a-smaller c = fewer c.loop-a.own _ c.rest-own.ensures

pub loop-a-preserved : goal.loop-a-preserved
loop-a-preserved c =
    c.loop-a.invariant
    ∙ rw (split c.loop-a.own _ c.in-Some.ensures _ c.rest-own.ensures, split c.loop-a.asked _ c.in-Some-first.ensures _ c.rest-asked.ensures)
    (step_turn _ _ _ _ c.args.cover (sym c.passes.ensures ∙ c.if-not-passes.false))

pub returns : goal.returns
returns c = sym (c.loop-a.invariant ∙ rw (ended c.loop-a.own c.in_default.ensures) (step_end c.args.cover _))
