-- `choose` finds the best of the rules that pass: one that passes and that no other that passes is over.
use mathlib.Core.Path.{◌≡◌, refl, sym, subst}
use mathlib.Core.Bool.{Bool, true, false}
use mathlib.Core.List.Memᴰ
use mathlib.Core.List.{List, [], ◌∷◌}
use mathlib.Core.Option.{Option, none, some}
use Prim.Native.Nat.{ℕ, suc, ◌+◌}
use native.Mathlib.Omega.{arith}
use lib.ListN.{get_elem?}
use Rattle.text.specs.Test.{whether◌then◌else◌, ◌∈◌, twice}
use Rattle.text.proofs.Tests.{clash, by, on_cons, same→≡, ≡→same}
use Rattle.table.specs.Table.{Rule}
use Rattle.verdict.specs.Order.{Numbered, prefer, candidate, choose}
use Rattle.table.specs.Refusal.{same_id}
use Rattle.verdict.proofs.Twice.{twice→}
use Rattle.verdict.proofs.Order.{Order}

pub record Wins (over : Rule → Rule → Bool) (test : Rule → Bool) (rs : List Rule) (r : Rule) : Type 0 where
  pub listed : r ∈ rs
  pub passes : test r ≡ true
  pub unbeaten : (s : Rule) → s ∈ rs → test s ≡ true → over s r ≡ false

-- what `choose` answers
abbrev pub Chosen : (Rule → Rule → Bool) → (Rule → Bool) → List Rule → Option Numbered → Type 0
Chosen over test rs none = (s : Rule) → s ∈ rs → test s ≡ false
Chosen over test rs (some n) = Wins over test rs n.rule

module _ {over : Rule → Rule → Bool} (o : Order over) (test : Rule → Bool) where
  irreflexive : (r : Rule) → over r r ≡ false
  irreflexive r = by _ (λ e. o.oasym r r e) (λ e. e)

  step : (r : Rule) (rs : List Rule) (i : ℕ) → test r ≡ true → (a : Option Numbered) → Chosen over test rs a
      → Chosen over test (r ∷ rs) (prefer over (some (record { number = i; rule = r })) a)
  unfolding prefer whether◌then◌else◌
  step r rs i e none h = record { listed = Memᴰ.head refl; passes = e; unbeaten = on_cons _ (λ t. irreflexive r) (λ s m t. clash t (h s m)) }
  step r rs i e (some n) h =
      by (over n.rule r)
      (λ k. rw k (record { listed = Memᴰ.tail h.listed; passes = h.passes; unbeaten = on_cons _ (λ t. o.oasym _ _ k) h.unbeaten }))
      (λ k. rw k (record { listed = Memᴰ.head refl; passes = e; unbeaten = on_cons _ (λ t. irreflexive r) (λ s m t. o.ochain s n.rule r (h.unbeaten s m t) k) }))

  skip : (r : Rule) (rs : List Rule) → test r ≡ false → (a : Option Numbered) → Chosen over test rs a → Chosen over test (r ∷ rs) a
  skip r rs e none h = on_cons _ e h
  skip r rs e (some n) h = record { listed = Memᴰ.tail h.listed; passes = h.passes; unbeaten = on_cons _ (λ t. clash t e) h.unbeaten }

  pub chosen : (rs : List Rule) (i : ℕ) → Chosen over test rs (choose over test i rs)
  unfolding choose candidate prefer whether◌then◌else◌
  chosen [] i = λ s m. absurd (Memᴰ.not-nil m)
  chosen (r ∷ rs) i =
      by (test r) (λ e. rw e (step r rs i e (choose over test (suc i) rs) (chosen rs (suc i)))) (λ e. rw e (skip r rs e (choose over test (suc i) rs) (chosen rs (suc i))))

pub same_id_turned : (r s : Rule) → same_id r s ≡ true → same_id s r ≡ true
unfolding same_id
same_id_turned r s e = let i : r.id ≡ s.id = same→≡ r.id s.id e in ≡→same (sym i)

-- two rules of one table of which none is over the other are one rule
pub tied_same : {over : Rule → Rule → Bool} → Order over → (rs : List Rule) → twice same_id rs ≡ false
    → (r s : Rule) → r ∈ rs → s ∈ rs → over r s ≡ false → over s r ≡ false → r ≡ s
unfolding same_id
tied_same o rs d r s m n e f = twice→ same_id same_id_turned rs d m n (≡→same (o.otied r s e f))

-- ---- the number is the rule's place

abbrev Placed : ℕ → List Rule → Option Numbered → Type 0
Placed i rs none = Unit {0}
Placed i rs (some n) = (k : ℕ) × (n.number ≡ i + k) × (get_elem? rs k ≡ some n.rule)

placed : (over : Rule → Rule → Bool) (test : Rule → Bool) (rs : List Rule) (i : ℕ) → Placed i rs (choose over test i rs)
unfolding choose prefer candidate whether◌then◌else◌
placed over test [] i = tt
placed over test (r ∷ rs) i =
    by (test r) (λ e. rw e (first (choose over test (suc i) rs) (placed over test rs (suc i)))) (λ e. rw e (later (choose over test (suc i) rs) (placed over test rs (suc i))))
  where
    later : (o : Option Numbered) → Placed (suc i) rs o → Placed i (r ∷ rs) o
    later none h = tt
    later (some n) h = (suc h.0, omega arith, h.2)

    first : (o : Option Numbered) → Placed (suc i) rs o → Placed i (r ∷ rs) (prefer over (some (record { number = i; rule = r })) o)
    first none h = (0, omega arith, refl)
    first (some n) h = by (over n.rule r) (λ e. rw e (later (some n) h)) (λ e. rw e (0, omega arith, refl))

pub numbered : (over : Rule → Rule → Bool) (test : Rule → Bool) (rs : List Rule) (n : Numbered) → choose over test 0 rs ≡ some n
    → get_elem? rs n.number ≡ some n.rule
numbered over test rs n e =
    let p = subst (Placed 0 rs) e (placed over test rs 0) in
    let q : n.number ≡ p.0 = omega arith in
    rw q p.2

-- ---- the best of two parts, for a loop that goes on from the best so far

module _ {over : Rule → Rule → Bool} (o : Order over) where
  over_trans : (r s u : Rule) → over r s ≡ true → over s u ≡ true → over r u ≡ true
  over_trans r s u e h = by (over r u) (λ k. k) (λ k. clash e (o.ochain r u s k (o.oasym s u h)))

  pub prefer_assoc : (x y z : Option Numbered) → prefer over (prefer over x y) z ≡ prefer over x (prefer over y z)
  unfolding prefer whether◌then◌else◌
  prefer_assoc none y z = refl
  prefer_assoc (some n) none z = refl
  prefer_assoc (some n) (some m) none = refl
  prefer_assoc (some n) (some m) (some k) =
      by (over m.rule n.rule)
      (λ a. by (over k.rule m.rule) (λ b. simp (a, b, over_trans _ _ _ b a)) (λ b. simp (a, b)))
      (λ a. by (over k.rule m.rule) (λ b. simp (a, b)) (λ b. simp (a, b, o.ochain k.rule m.rule n.rule b a)))
