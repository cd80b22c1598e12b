-- The words of specs/ and the library's: what its `all`, `any`, `==`, `<` and `copy_from_slice` ensure, said with `all`, `any`, `same`, `before` and `put`.
-- Made for `using(text::proofs::Library::..)`.
use Rattle.std.proofs.Common.{◌≡◌, ℕ, Bool, true, false, ◌&&◌, ◌||◌, List, [], ◌∷◌, ◌++◌, length, take, drop, refl, ap, ◌∙◌, sym, Option, Some, nat_eq, arith, drop-drop}
use Rattle.std.specs.List.{list_all, list_any}
use Rattle.std.specs.Cmp.Lexicographic.{pointwise, slice_partial_cmp}
use Rattle.std.specs.Ordering.{is_lt, is_some_and, nat_cmp}
use Rattle.std.proofs.lemmas.Cmp.{same_from_slice_cmp_tested}
use Rattle.std.proofs.lemmas.Bool.Decides.{nat_tests}
use Rattle.std.proofs.lemmas.Iterator.{YieldsList}
use Rattle.std.proofs.lemmas.Iterator.Search.{all_from_yields_List, any_from_yields_List}
use Rattle.std.specs.Fn.{Called}
use Rattle.std.specs.Iterator.{YieldsThen}
use Rattle.std.specs.List.{FoldsTo}
use Rattle.std.specs.Option.{MatchOption}
use denote.Param.Members.{Mut}
use Rattle.text.specs.Test.{◌and◌, ◌or◌, all, any}
use Rattle.text.specs.String.{same, more, before}
use Rattle.text.specs.Fill.{put}
use Rattle.text.proofs.Tests.{or_is, or_none_lem}

and_is : (a b : Bool) → (a and b) ≡ (a && b)
unfolding ◌and◌
and_is true b = refl
and_is false b = refl

module _ {A : Type 0} (p : A → Bool) where
  pub all_is : (xs : List A) → all p xs ≡ list_all p xs
  unfolding all
  all_is [] = refl
  all_is (x ∷ xs) = and_is (p x) (all p xs) ∙ ap (λ (t : Bool). p x && t) (all_is xs)

  pub any_is : (xs : List A) → any p xs ≡ list_any p xs
  unfolding any
  any_is [] = refl
  any_is (x ∷ xs) = sym (or_is (p x) (any p xs)) ∙ ap (λ (t : Bool). p x || t) (any_is xs)

-- The answers of `s.iter().all(f)` and `.any(f)`, where f computes `test`: with `_` for u and f, the call's result and its clause `ran`, `YieldsList-from_slice s.now cc`
-- (Rattle.std.proofs.lemmas.Iterator; another source has another lemma there), and `λ x b q k. search (rules, tests)`.
module _ {S A B F : Type 0} {steps : S → Option A → S → Type 0} {v : A → B} {g : Mut F (A × Unit {0}) Bool} {s : S} {xs : List B} (test : B → Bool) (u : S) (f : F) (r : Bool) where
  pub all_told : (ys : List A) × (o : Option A) × (j : F) × YieldsThen steps s ys o u × FoldsTo (λ p x q. Called g p (x, tt) true q) f ys j
      × MatchOption o (r ≡ true) (λ x. (r ≡ false) × ((h : F) × Called g j (x, tt) false h))
      → YieldsList steps v s xs → ((x : A) (b : Bool) (q : F) → Called g f (x, tt) b q → (q ≡ f) × (b ≡ test (v x))) → r ≡ all test xs
  all_told ran y c = all_from_yields_List test u f r ran y c ∙ sym (all_is test xs)

  pub any_told : (ys : List A) × (o : Option A) × (j : F) × YieldsThen steps s ys o u × FoldsTo (λ p x q. Called g p (x, tt) false q) f ys j
      × MatchOption o (r ≡ false) (λ x. (r ≡ true) × ((h : F) × Called g j (x, tt) true h))
      → YieldsList steps v s xs → ((x : A) (b : Bool) (q : F) → Called g f (x, tt) b q → (q ≡ f) × (b ≡ test (v x))) → r ≡ any test xs
  any_told ran y c = any_from_yields_List test u f r ran y c ∙ sym (any_is test xs)

-- `==` on slices
pub same_is : (xs ys : List ℕ) → same xs ys ≡ pointwise nat_eq xs ys
unfolding same
same_is [] [] = refl
same_is [] (y ∷ ys) = refl
same_is (x ∷ xs) [] = refl
same_is (x ∷ xs) (y ∷ ys) = and_is (nat_eq x y) (same xs ys) ∙ ap (λ (t : Bool). nat_eq x y && t) (same_is xs ys)

-- `<` on slices
pub before_is : (xs ys : List ℕ) (r : Bool) → r ≡ is_some_and is_lt (slice_partial_cmp (λ x y. Some (nat_cmp x y)) xs ys) → r ≡ before xs ys
unfolding before more ◌and◌ ◌or◌
before_is xs ys r h = same_from_slice_cmp_tested nat_cmp is_lt before refl (λ y ys. refl) (λ x xs. refl) (λ x y xs ys o h. grind (arith, nat_tests, or_none_lem)) xs ys r h

-- `d[at..at + n].copy_from_slice(s)`
pub put_is : (d : List ℕ) (at : ℕ) (s : List ℕ) → put d at s ≡ take at d ++ (s ++ drop (length s) (drop at d))
unfolding put
put_is d at s = rw (drop-drop (length s) at d)
