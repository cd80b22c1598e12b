use native.Mathlib.Omega.{arith}
use mathlib.Core.Path.{◌≡◌, sym, ap, ◌∙◌}
use Prim.Native.Nat.{◌+◌}
use lib.ListN.{length}
use Rattle.text.specs.Test.{whether◌then◌else◌, only}
use Rattle.verdict.specs.Cover.{wild, given}
use Rattle.verdict.specs.Order.{one_unless}
use Rattle.verdict_compare.specs.Place.{key, keys}
use Rattle.verdict_judge.proofs.Counting.{given_cons, given_few}
use Rattle.verdict_judge.proofs.rule.count_given.Goals as goal

pub loop-key-init : goal.loop-key-init
loop-key-init c = rw c.into_iter-key-iterator.ensures.into_iter_gives (omega arith)

pub overflow_add-n : goal.overflow_add-n
unfolding whether◌then◌else◌
overflow_add-n c =
    let few = given_few c.args.own in
    let w : one_unless (wild (key c.in-Some.key)) ≡ 1 = rw (sym c.is_wild.ensures ∙ c.if-not-is_wild.true) in
    let t = rw (c.in-Some.ensures.steps, given_cons (key c.in-Some.key) (keys c.next.new.self)) at c.loop-key.invariant in
    let r = c.ranges in omega arith

pub loop-key-preserved-then-not-is_wild : goal.loop-key-preserved-then-not-is_wild
unfolding whether◌then◌else◌
loop-key-preserved-then-not-is_wild c =
    let w : one_unless (wild (key c.in-Some.key)) ≡ 1 = rw (sym c.is_wild.ensures ∙ c.if-not-is_wild.true) in
    let t = rw (c.in-Some.ensures.steps, given_cons (key c.in-Some.key) (keys c.next.new.self)) at c.loop-key.invariant in
    t ∙ omega arith

pub loop-key-preserved : goal.loop-key-preserved
unfolding whether◌then◌else◌
loop-key-preserved c =
    let w : one_unless (wild (key c.in-Some.key)) ≡ 0 = rw (sym c.is_wild.ensures ∙ c.if-not-is_wild.false) in
    let t = rw (c.in-Some.ensures.steps, given_cons (key c.in-Some.key) (keys c.next.new.self)) at c.loop-key.invariant in
    t ∙ omega arith

pub returns : goal.returns
unfolding only
returns c = sym (rw c.in-None.ensures.steps.0 at c.loop-key.invariant ∙ omega arith)
