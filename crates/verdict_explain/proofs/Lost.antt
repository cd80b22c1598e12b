-- The step that `step_of` names is the one at which the ranking decides.
use mathlib.Core.Path.{◌≡◌, sym}
use mathlib.Core.Bool.{Bool, true}
use Prim.Native.Nat.{ℕ, ◌<◌}
use native.Mathlib.Omega.{arith}
use borrow.Author.Tests.{ltb-true, lt-ltb, eqb-true, eq-eqb, ne_eqb}
use lib.Dec.{eqb, ltb}
use Rattle.text.specs.Test.{◌and◌, ◌or◌, whether◌then◌else◌}
use Rattle.text.specs.String.{more}
use Rattle.text.proofs.Tests.{by, and_l, and_r, both, or_l, or_r}
use Rattle.verdict.specs.Order.{one_unless, better}
use Rattle.verdict_explain.specs.Standing.{standing, decides, step_of}
use Rattle.verdict_explain.specs.Lost.{LostAt, NamesTheStep, LosesByStep}
use Rattle.verdict_explain.specs.declared.Step.{Step}
use Rattle.verdict_explain.specs.declared.Step.TheVariants as step

-- one step: b is more than a, or they are level and the later steps decide
module _ (P : Step → Type 0) (a b : ℕ) (here next : Step) (t : Bool) where
  one_step : more b a t ≡ true → (a < b → P here) → (b ≡ a → t ≡ true → P next) → P (decides a b here next)
  unfolding more decides whether◌then◌else◌ ◌or◌
  one_step e f g =
      by (ltb a b)
      (λ l. let h : a < b = ltb-true a b l in rw (ne_eqb a b (λ q. let z : ⊥ = omega arith in z)) (f h))
      (λ l.
      let k : (eqb b a and t) ≡ true = rw l at e in
      let q : b ≡ a = eqb-true b a (and_l (eqb b a) t k) in
      rw (eq-eqb a b (sym q)) (g q (and_r (eqb b a) t k)))

pub names_the_step : NamesTheStep
unfolding better step_of standing LostAt
names_the_step r s e =
    let P : Step → Type 0 = λ k. LostAt k r s in
    let a = standing s in
    let b = standing r in
    one_step P a.elements b.elements step.Elements _ _ e (λ h. h)
    (λ q₁ e₁. one_step P a.keys b.keys step.Keys _ _ e₁ (λ h. (q₁, h))
    (λ q₂ e₂. one_step P (one_unless a.group) (one_unless b.group) step.Subject _ _ e₂ (λ h. (q₁, q₂, h))
    (λ q₃ e₃. one_step P (one_unless a.permit) (one_unless b.permit) step.Action step.Id _ e₃ (λ h. (q₁, q₂, q₃, h))
    (λ q₄ e₄. (q₁, q₂, q₃, q₄, e₄)))))

-- ---- the other way round

module _ (a b : ℕ) (t : Bool) where
  ahead : b < a → more a b t ≡ true
  unfolding more
  ahead h = or_l _ _ (lt-ltb b a h)

  level : a ≡ b → t ≡ true → more a b t ≡ true
  unfolding more
  level e h = or_r _ _ (both _ _ (eq-eqb a b e) h)

pub loses_by_step : LosesByStep
unfolding better LostAt
loses_by_step step.Elements r s h = ahead _ _ _ h
loses_by_step step.Keys r s h = level _ _ _ h.0 (ahead _ _ _ h.1)
loses_by_step step.Subject r s h = level _ _ _ h.0 (level _ _ _ h.1 (ahead _ _ _ h.2))
loses_by_step step.Action r s h = level _ _ _ h.0 (level _ _ _ h.1 (level _ _ _ h.2 (ahead _ _ _ h.3)))
loses_by_step step.Id r s h = level _ _ _ h.0 (level _ _ _ h.1 (level _ _ _ h.2 (level _ _ _ h.3 h.4)))
