-- One turn of each scan of a string, and each way out of it.
use Rattle.std.proofs.Common.{◌≡◌, ℕ, zero, suc, ◌+◌, ◌<◌, ◌≤◌, Bool, true, false, ◌||◌, ltb, List, [], ◌∷◌, length, get_or, drop, sym, refl, ap, ◌∙◌, add-one, arith, drop_of_length-le, drop-cons, le-ltb, eq-eqb, ne_eqb}
use lib.Dec.{leb-zero, leb-suc-zero, leb-suc-suc}
use Rattle.text.specs.Test.{◌and◌, ◌or◌, all, any}
use Rattle.text.specs.String.{same, more, before}
use lib.Dec.{leb}
use borrow.Author.Tests.{leb-true, leb-false}
use Rattle.text.proofs.Tests.{by, and_second, or_join, or_none_lem}

module _ (p : ℕ → Bool) (a : List ℕ) (i : ℕ) where
  pub all_pass : i < length a → p (get_or a i 0) ≡ true → all p (drop i a) ≡ all p (drop (i + 1) a)
  unfolding all ◌and◌
  all_pass h t = rw (add-one, drop-cons a i 0, t)

  pub all_fail : i < length a → p (get_or a i 0) ≡ false → all p (drop i a) ≡ false
  unfolding all ◌and◌
  all_fail h t = rw (drop-cons a i 0, t)

  pub all_end : length a ≤ i → all p (drop i a) ≡ true
  unfolding all
  all_end h = rw drop_of_length-le

  -- a flag gathers whether some byte passes
  pub any_turn : (whole flag t : Bool) → i < length a → t ≡ p (get_or a i 0) → whole ≡ (flag or any p (drop i a))
      → whole ≡ ((flag || t) or any p (drop (i + 1) a))
  unfolding any
  any_turn whole flag t h j e = e ∙ rw (add-one, drop-cons a i 0, j) (or_join flag _ _)

  pub any_end : (whole flag : Bool) → length a ≤ i → whole ≡ (flag or any p (drop i a)) → whole ≡ flag
  unfolding any
  any_end whole flag h e = e ∙ rw (drop_of_length-le a h) (or_none_lem flag)

module _ (a b : List ℕ) (i : ℕ) where
  pub same_pass : i < length a → i < length b → get_or a i 0 ≡ get_or b i 0 → same (drop i a) (drop i b) ≡ same (drop (i + 1) a) (drop (i + 1) b)
  unfolding same ◌and◌
  same_pass p q e = rw (add-one, drop-cons a i 0, drop-cons b i 0, eq-eqb _ _ e)

  pub same_differ : i < length a → i < length b → (get_or a i 0 ≡ get_or b i 0 → ⊥) → same (drop i a) (drop i b) ≡ false
  unfolding same ◌and◌
  same_differ p q e = rw (drop-cons a i 0, drop-cons b i 0, ne_eqb _ _ e)

  pub same_end : length a ≤ i → length b ≤ i → same (drop i a) (drop i b) ≡ true
  unfolding same
  same_end p q = rw (drop_of_length-le a, drop_of_length-le b)

  pub before_pass : i < length a → i < length b → get_or a i 0 ≡ get_or b i 0 → before (drop i a) (drop i b) ≡ before (drop (i + 1) a) (drop (i + 1) b)
  unfolding before more ◌and◌ ◌or◌
  before_pass p q e = rw (add-one, drop-cons a i 0, drop-cons b i 0, le-ltb (get_or a i 0) (get_or b i 0) (omega arith), eq-eqb (get_or b i 0) (get_or a i 0) (sym e))

  pub before_differ : i < length a → i < length b → (get_or a i 0 ≡ get_or b i 0 → ⊥) → before (drop i a) (drop i b) ≡ ltb (get_or a i 0) (get_or b i 0)
  unfolding before more ◌and◌
  before_differ p q e = rw (drop-cons a i 0, drop-cons b i 0, ne_eqb (get_or b i 0) (get_or a i 0) (λ z. e (sym z))) (or_none_lem _)

  pub before_short : i < length a → length b ≤ i → before (drop i a) (drop i b) ≡ false
  unfolding before
  before_short p q = rw (drop-cons a i 0, drop_of_length-le b)

before_nil : (b : List ℕ) (i : ℕ) → before [] (drop i b) ≡ ltb i (length b)
unfolding before
before_nil [] zero = refl
before_nil [] (suc i) = sym (leb-suc-zero (suc i))
before_nil (y ∷ b) zero = sym (leb-suc-suc zero (length b) ∙ leb-zero (length b))
before_nil (y ∷ b) (suc i) = before_nil b i ∙ sym (leb-suc-suc (suc i) (length b))

pub before_end : (a b : List ℕ) (i : ℕ) → length a ≤ i → before (drop i a) (drop i b) ≡ ltb i (length b)
before_end a b i p = rw (drop_of_length-le a) (before_nil b i)

-- where one of two strings that are the same so far ends, their lengths decide
pub before_lengths : (a b : List ℕ) (i : ℕ) → i ≤ length a → i ≤ length b → (i < length a → length b ≤ i)
    → before (drop i a) (drop i b) ≡ ltb (length a) (length b)
before_lengths a b i p q e =
    by (leb (length a) i)
    (λ t. let l : length a ≤ i = leb-true _ _ t in let z : i ≡ length a = omega arith in before_end a b i l ∙ ap (λ n. ltb n (length b)) z)
    (λ t. let l : i < length a = leb-false _ _ t in let m : length b ≤ i = e l in before_short a b i l m ∙ sym (le-ltb (length a) (length b) (omega arith)))

-- strings of different lengths
pub same_lengths : (a b : List ℕ) → (length a ≡ length b → ⊥) → same a b ≡ false
unfolding same
same_lengths [] [] n = absurd (n refl)
same_lengths [] (y ∷ b) n = refl
same_lengths (x ∷ a) [] n = refl
same_lengths (x ∷ a) (y ∷ b) n = and_second _ _ (same_lengths a b (λ e. n (ap suc e)))
