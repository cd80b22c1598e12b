use native.Mathlib.Omega.{arith}
use mathlib.Core.Path.{◌≡◌, sym, ◌∙◌}
use Prim.Native.Nat.{◌+◌}
use Rattle.verdict.specs.Cover.{definite}
use Rattle.verdict.specs.Order.{definites}
use Rattle.verdict_compare.specs.Place.{element, elements}
use Rattle.verdict_judge.proofs.Counting.{definites_few}
use Rattle.verdict_judge.proofs.rule.count_keys.Goals as goal

pub loop-element-init : goal.loop-element-init
loop-element-init c = rw c.into_iter-element-iterator.ensures.into_iter_gives (omega arith)

pub overflow_add-n : goal.overflow_add-n
unfolding definites definite
overflow_add-n c =
    let few = definites_few c.args.path in
    let t = rw c.in-Some.ensures.steps at c.loop-element.invariant in
    let r = c.ranges in
    rw (c.count_given-n.ensures, c.keys.ensures) (omega arith)

pub loop-element-preserved : goal.loop-element-preserved
unfolding definites definite
loop-element-preserved c =
    let t = rw c.in-Some.ensures.steps at c.loop-element.invariant in
    rw (c.count_given-n.ensures, c.keys.ensures) (omega arith)

pub returns : goal.returns
unfolding definites
returns c = sym (rw c.in-None.ensures.steps.0 at c.loop-element.invariant ∙ omega arith)
