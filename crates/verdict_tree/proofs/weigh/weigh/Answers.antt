use native.Mathlib.Omega.{arith}
use mathlib.Core.Path.{◌≡◌, refl, sym, ap, ◌∙◌}
use Prim.Native.Nat.{ℕ, ◌+◌, ◌*◌}
use lib.ListN.{get_or, length-set}
use Rattle.limits.specs.Limits.{max_rules}
use Rattle.verdict_compare.specs.Place.{elements}
use Rattle.verdict_judge.specs.Placed.{nth}
use Rattle.verdict_judge.proofs.Storing.{stored_in}
use Rattle.verdict_tree.specs.Tree.{Packed, weight, fitting}
use Rattle.verdict_tree.proofs.Weights.{pack}
use Rattle.verdict_tree.proofs.weigh.weigh.Goals as goal

pub loop-i-init : goal.loop-i-init
loop-i-init c = (refl, (λ j z. absurd (omega arith)), λ app h j z. absurd (omega arith))

pub overflow_mul-weights : goal.overflow_mul-weights
overflow_mul-weights c = let e = c.weight_of.ensures.light in omega arith

pub overflow_add-weights : goal.overflow_add-weights
overflow_add-weights c = let e = c.weight_of.ensures.light in let few = c.args.rules.few in omega arith

pub loop-i-preserved : goal.loop-i-preserved
loop-i-preserved c =
    let R = c.args.rules in
    let i = c.loop-i.i in
    let x = c.weight_of.result * max_rules + i in
    let w = rw c.rule.ensures at c.weight_of.ensures in
    let room = c.loop-i.invariant.0 in (
      length-set c.loop-i.weights i _ ∙ c.loop-i.invariant.0,
      stored_in 0 (λ (j v : ℕ). Packed v j) c.loop-i.weights i x (omega arith) c.loop-i.invariant.1
          (pack _ _ w.light (let few = R.few in omega arith)),
      λ app h. stored_in 0 (λ (j v : ℕ). v ≡ weight (fitting app (elements c.args.asked)) (nth R j) * max_rules + j)
          c.loop-i.weights i x (omega arith) (c.loop-i.invariant.2 app h)
          (ap (λ (y : ℕ). y * max_rules + i) (w.weighs app (h _ c.loop-i-test.true))),
    )

pub returns-clause-weighing : goal.returns-clause-weighing
returns-clause-weighing c =
    let room = c.loop-i.invariant.0 in
    record {
      each = omega arith;
      packed = λ i l. c.loop-i.invariant.1 i (omega arith);
      weights_are = λ app h i l. c.loop-i.invariant.2 app h i (omega arith);
    }
