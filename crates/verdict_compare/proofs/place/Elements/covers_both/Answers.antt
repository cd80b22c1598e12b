use mathlib.Core.Path.{sym, ◌∙◌}
use Rattle.verdict_compare.proofs.Steps.{ended, starts, there, split, fewer}
use Rattle.verdict_compare.proofs.Elems.{both_end, both_path, both_rule, both_fail, both_turn}
use Rattle.verdict_compare.proofs.place.Elements.covers_both.Goals as goal

pub returns-in_default-first : goal.returns-in_default-first
returns-in_default-first c =
    let t = there c.loop-a.own _ c.in-Some.ensures in
    c.covers.ensures ∙ sym (c.loop-a.invariant ∙ rw (t.1, ended c.loop-a.left c.in_default-first.ensures) (both_path _ _ _))

pub returns-in_default-first-2 : goal.returns-in_default-first-2
returns-in_default-first-2 c =
    let t = there c.loop-a.own _ c.in-Some.ensures in
    let u = there c.loop-a.left _ c.in-Some-first.ensures in
    c.covers-in_default-first-2.ensures
    ∙ sym (c.loop-a.invariant ∙ rw (t.1, u.1, ended c.loop-a.right c.in_default-first-2.ensures) (both_rule _ _ _ _))

pub returns-then-not-meets_both : goal.returns-then-not-meets_both
returns-then-not-meets_both c =
    let t = there c.loop-a.own _ c.in-Some.ensures in
    let u = there c.loop-a.left _ c.in-Some-first.ensures in
    let v = there c.loop-a.right _ c.in-Some-first-2.ensures in
    sym (c.loop-a.invariant ∙ rw (t.1, u.1, v.1) (both_fail _ _ _ _ _ _ (sym c.meets_both.ensures ∙ c.if-not-meets_both.true)))

pub rest-own-requires : goal.rest-own-requires
rest-own-requires c = starts c.loop-a.own _ c.in-Some.ensures

pub rest-left-requires : goal.rest-left-requires
rest-left-requires c = starts c.loop-a.left _ c.in-Some-first.ensures

pub rest-right-requires : goal.rest-right-requires
rest-right-requires c = starts c.loop-a.right _ c.in-Some-first-2.ensures

pub loop-a-smaller : goal.loop-a-smaller
loop-a-smaller c = fewer c.loop-a.own _ c.rest-own.ensures

pub loop-a-preserved : goal.loop-a-preserved
loop-a-preserved c =
    let t = split c.loop-a.own _ c.in-Some.ensures _ c.rest-own.ensures in
    let u = split c.loop-a.left _ c.in-Some-first.ensures _ c.rest-left.ensures in
    let v = split c.loop-a.right _ c.in-Some-first-2.ensures _ c.rest-right.ensures in
    c.loop-a.invariant ∙ rw (t, u, v) (both_turn _ _ _ _ _ _ (sym c.meets_both.ensures ∙ c.if-not-meets_both.false))

pub returns : goal.returns
returns c = sym (c.loop-a.invariant ∙ rw (ended c.loop-a.own c.in_default.ensures) (both_end _ _))
