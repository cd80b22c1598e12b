use native.Mathlib.Omega.{arith}
use mathlib.Core.Path.{sym, ◌∙◌}
use Prim.Native.Nat.{zero-le}
use Rattle.verdict_tree.proofs.Weights.{weight_off, weight_apart, weight_fit}
use Rattle.verdict_tree.proofs.weigh.weight_of.Goals as goal

pub returns-then-not-is_on : goal.returns-then-not-is_on
returns-then-not-is_on c = record { light = zero-le; weighs = λ app h. weight_off app _ _ (sym h ∙ c.if-not-is_on.true) }

pub returns-then-not-agrees : goal.returns-then-not-agrees
returns-then-not-agrees c =
    record {
      light = zero-le;
      weighs = λ app h. weight_apart app _ _ (sym (rw c.path-path.ensures.path at c.agrees.ensures) ∙ c.if-not-agrees.true);
    }

pub overflow_add-result : goal.overflow_add-result
overflow_add-result c = omega (arith, c.rank_of.ensures.below)

pub returns : goal.returns
returns c =
    record {
      light = omega (arith, c.rank_of.ensures.below);
      weighs = λ app h. weight_fit app _ _ _ (sym h ∙ c.if-not-is_on.false)
          (sym (rw c.path-path.ensures.path at c.agrees.ensures) ∙ c.if-not-agrees.false) c.rank_of.ensures.rank;
    }
