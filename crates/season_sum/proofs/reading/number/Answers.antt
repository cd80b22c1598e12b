use native.Mathlib.Omega.{arith}
use mathlib.Core.Path.{refl, sym, ◌∙◌}
use Rattle.season_sum.specs.Steps.{bad}
use Rattle.season_sum.proofs.Numbers.{continued, number_none, number_ends, number_stops, number_more}
use Rattle.season_sum.proofs.reading.number.Goals as goal

pub loop-i-init : goal.loop-i-init
loop-i-init c = refl

pub overflow_mul-value : goal.overflow_mul-value
overflow_mul-value c =
    let h = continued _ _ (sym c.is_next.ensures ∙ c.if-not-is_next.false) in omega (arith, h.1)

pub overflow_sub-value : goal.overflow_sub-value
overflow_sub-value c =
    let h = continued _ _ (sym c.is_next.ensures ∙ c.if-not-is_next.false) in omega (arith, h.0.low)

pub overflow_cast-value : goal.overflow_cast-value
overflow_cast-value c =
    let h = continued _ _ (sym c.is_next.ensures ∙ c.if-not-is_next.false) in omega (arith, h.0.high)

pub overflow_add-value : goal.overflow_add-value
overflow_add-value c =
    let h = continued _ _ (sym c.is_next.ensures ∙ c.if-not-is_next.false) in omega (arith, h.1)

pub returns-then-b-eq10 : goal.returns-then-b-eq10
returns-then-b-eq10 c =
    number_ends _ _ _ c.loop-i-test.true _ _ c.loop-i.auto.i c.loop-i.invariant c.if-b-eq10.true

pub returns-then-not-is_next : goal.returns-then-not-is_next
returns-then-not-is_next c =
    bad (c.loop-i.invariant ∙ number_stops _ _ _ c.loop-i-test.true
    c.if-b-eq10.false (sym c.is_next.ensures ∙ c.if-not-is_next.true))

pub loop-i-preserved : goal.loop-i-preserved
loop-i-preserved c =
    c.loop-i.invariant ∙ number_more _ _ _ c.loop-i-test.true
    c.if-b-eq10.false (sym c.is_next.ensures ∙ c.if-not-is_next.false)

pub returns : goal.returns
returns c = bad (c.loop-i.invariant ∙ number_none c.args.text.now c.loop-i.i c.loop-i.value (omega (arith, c.loop-i-test.false)))
