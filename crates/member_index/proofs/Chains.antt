-- The first member of a place; members linked one after another, from the last to the first.
use mathlib.Core.Path.{◌≡◌, refl, sym, ◌∙◌, subst}
use mathlib.Core.List.{List}
use Prim.Native.Nat.{ℕ, zero, suc, ◌+◌, ◌-◌, ◌≤◌, ◌<◌}
use native.Mathlib.Omega.{arith}
use borrow.Author.Tests.{eqb-true, eqb-false, eq-eqb, ne_eqb}
use lib.Dec.{eqb}
use lib.ListN.{get_or, set, length-set}
use lib.Seq.{get_or-set_same, get_or-set_other}
use Rattle.text.specs.Test.{whether◌then◌else◌}
use Rattle.text.proofs.Tests.{by}
use Rattle.text_hash.specs.declared.Seed.{Seed}
use Rattle.member_index.specs.Index.{places, place_in, first_in, Linkable, LinkedFrom, Linked}

-- ---- the first member of a place

-- number j is one of k members, from number i on, and has place b
pub record FirstAt (seed : Seed) (f users : List ℕ) (b k i j : ℕ) : Type 0 where
  pub low : i ≤ j
  pub high : j < i + k
  pub has : place_in seed f users j ≡ b

module _ (seed : Seed) (f users : List ℕ) (b : ℕ) where
  pub first_none : (i : ℕ) → first_in seed f users b 0 i ≡ 0
  unfolding first_in
  first_none i = refl

  pub first_hit : (k i : ℕ) → place_in seed f users i ≡ b → first_in seed f users b (suc k) i ≡ suc i
  unfolding first_in whether◌then◌else◌
  first_hit k i e = rw (eq-eqb _ _ e)

  pub first_pass : (k i : ℕ) → (place_in seed f users i ≡ b → ⊥) → first_in seed f users b (suc k) i ≡ first_in seed f users b k (suc i)
  unfolding first_in whether◌then◌else◌
  first_pass k i e = rw (ne_eqb _ _ e)

  pub first_at : (k i j : ℕ) → suc j ≡ first_in seed f users b k i → FirstAt seed f users b k i j
  first_at zero i j e = absurd (omega (arith, e ∙ first_none i))
  first_at (suc k) i j e =
      by (eqb (place_in seed f users i) b)
      (λ t.
      let h : place_in seed f users i ≡ b = eqb-true _ _ t in
      let q : j ≡ i = omega (arith, e ∙ first_hit k i h) in
      record { low = omega arith; high = omega arith; has = rw q h })
      (λ t.
      let r = first_at k (suc i) j (e ∙ first_pass k i (eqb-false _ _ t)) in
      record { low = omega arith; high = omega arith; has = r.has })

-- ---- the loop

pub link_start : (seed : Seed) (f users : List ℕ) (n : ℕ) (heads links : List ℕ) → Linkable seed f users n heads links → LinkedFrom seed f users n n heads links
link_start seed f users n heads links h =
    let e : n - n ≡ 0 = omega arith in
    record {
      size = h.size;
      room = h.room;
      first = λ b l. rw (e, first_none seed f users b n) (h.empty b l);
      next = λ j l m. absurd (omega arith);
    }

module _ (seed : Seed) (f users : List ℕ) (n i : ℕ) (heads links : List ℕ) (b : ℕ) (h : LinkedFrom seed f users n (suc i) heads links) (under : i < n)
    (within : b < places) (is : place_in seed f users i ≡ b) where
  turn_first : (a : ℕ) → a < places → get_or (set heads b (suc i)) a 0 ≡ first_in seed f users a (n - i) i
  turn_first a l =
      let k : n - i ≡ suc (n - suc i) = omega arith in
      by (eqb a b)
      (λ t.
      let e : a ≡ b = eqb-true a b t in
      rw (e, k) (get_or-set_same heads b (suc i) 0 (omega (arith, h.size)) ∙ sym (first_hit seed f users b (n - suc i) i is)))
      (λ t.
      let e : a ≡ b → ⊥ = eqb-false a b t in
      rw k (get_or-set_other heads b a (suc i) 0 e ∙ h.first a l ∙ sym (first_pass seed f users a (n - suc i) i (λ q. e (sym q ∙ is)))))

  turn_next : (j : ℕ) → i ≤ j → j < n → get_or (set links i (get_or heads b 0)) j 0 ≡ first_in seed f users (place_in seed f users j) (n - suc j) (suc j)
  turn_next j l m =
      by (eqb j i)
      (λ t.
      let e : j ≡ i = eqb-true j i t in
      rw (e, is) (get_or-set_same links i (get_or heads b 0) 0 (omega (arith, h.room)) ∙ h.first b within))
      (λ t.
      let e : j ≡ i → ⊥ = eqb-false j i t in
      get_or-set_other links i j (get_or heads b 0) 0 e ∙ h.next j (omega arith) m)

  one_more : LinkedFrom seed f users n i (set heads b (suc i)) (set links i (get_or heads b 0))
  one_more =
      record {
        size = simp length-set h.size;
        room = simp length-set h.room;
        first = turn_first;
        next = turn_next;
      }

module _ {seed : Seed} {f users : List ℕ} {n left : ℕ} {heads links : List ℕ} (h : LinkedFrom seed f users n left heads links) where
  pub link_turn : (b : ℕ) → 0 < left → left ≤ n → b < places → b ≡ place_in seed f users (left - 1)
      → LinkedFrom seed f users n (left - 1) (set heads b left) (set links (left - 1) (get_or heads b 0))
  link_turn b l m within e =
      let k : left ≡ suc (left - 1) = omega arith in
      let g : LinkedFrom seed f users n (suc (left - 1)) heads links = subst (λ (i : ℕ). LinkedFrom seed f users n i heads links) k h in
      subst (λ (v : ℕ). LinkedFrom seed f users n (left - 1) (set heads b v) (set links (left - 1) (get_or heads b 0))) (sym k)
      (one_more seed f users n (left - 1) heads links b g (omega arith) within (sym e))

  pub link_end : left ≤ 0 → Linked seed f users n heads links
  link_end l = let e : left ≡ 0 = omega arith in subst (λ (i : ℕ). LinkedFrom seed f users n i heads links) e h
