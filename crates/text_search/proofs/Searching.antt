-- One turn of a search, and each way out of it.
use mathlib.Core.Path.{◌≡◌, ap}
use mathlib.Core.Bool.{Bool, true, false, not}
use mathlib.Core.List.{[], ◌∷◌}
use Prim.Native.Nat.{ℕ, suc, ◌+◌, ◌≤◌, ◌<◌}
use native.Mathlib.Numerals.{add-one}
use native.Mathlib.Omega.{arith}
use lib.ListN.{length, drop, get_or, length-drop, drop_of_length-le}
use lib.Seq.{drop-cons}
use Rattle.std.proofs.Common.{Option, Some, None, refl, sym, ◌∙◌, cond, ltb, ltb-false}
use Rattle.std.specs.List.{position_or_len}
use Rattle.text.specs.Test.{whether◌then◌else◌}
use Rattle.text.specs.Byte.{is_print}
use Rattle.text.specs.String.{Str}
use Rattle.text.proofs.Tests.{by}
use Rattle.text_search.specs.Search.{until, unprinted}

-- what is found lies within the string, or at its end
pub until_fits : (p : ℕ → Bool) (s : Str) → until p s ≤ length s
unfolding until whether◌then◌else◌
until_fits p [] = omega arith
until_fits p (x ∷ s) = by (p x) (λ u. rw u (omega arith)) (λ u. rw u (let h = until_fits p s in omega arith))

module _ (p : ℕ → Bool) (s : Str) (i : ℕ) where
  pub found : i < length s → p (get_or s i 0) ≡ true → until p (drop i s) ≡ 0
  unfolding until whether◌then◌else◌
  found h t = rw (drop-cons s i 0 h, t)

  pub passed : i < length s → p (get_or s i 0) ≡ false → until p (drop i s) ≡ until p (drop (i + 1) s) + 1
  unfolding until whether◌then◌else◌
  passed h t = let k : drop (i + 1) s ≡ drop (suc i) s = ap (λ (n : ℕ). drop n s) (add-one i) in rw (drop-cons s i 0 h, t, k) (omega arith)

  pub ran_out : length s ≤ i → until p (drop i s) ≡ 0
  unfolding until
  ran_out h = rw (drop_of_length-le s h)

-- the library's `position`
until_is : (p : ℕ → Bool) (s : Str) → until p s ≡ position_or_len p s
unfolding until whether◌then◌else◌
until_is p [] = refl
until_is p (x ∷ s) = by (p x) (λ u. rw u) (λ u. rw (u, until_is p s) (omega arith))

module _ (p : ℕ → Bool) (s : Str) (r : Option ℕ) (h : r ≡ cond (ltb (position_or_len p s) (length s)) (Some (position_or_len p s)) None) where
  pub position_some : (n : ℕ) → r ≡ Some n → n ≡ until p s
  position_some n e =
      by (ltb (position_or_len p s) (length s))
      (λ u. let k : r ≡ Some (position_or_len p s) = rw u at h in let j : n ≡ position_or_len p s = cc in j ∙ sym (until_is p s))
      (λ u. let k : r ≡ None = rw u at h in let z : ◌≡◌ {A = ℕ} 0 1 = cc in absurd (omega arith))

  pub position_none : r ≡ None → length s ≡ until p s
  position_none e =
      by (ltb (position_or_len p s) (length s))
      (λ u. let k : r ≡ Some (position_or_len p s) = rw u at h in let z : ◌≡◌ {A = ℕ} 0 1 = cc in absurd (omega arith))
      (λ u. omega (arith, ltb-false _ _ u, until_is p s, until_fits p s))

-- the search from `at` on answers r
module _ (p : ℕ → Bool) (s : Str) (at r : ℕ) (h : at ≤ length s) (e : r ≡ at + until p (drop at s)) where
  pub found_low : at ≤ r
  found_low = omega arith

  pub found_high : r ≤ length s
  found_high = omega (arith, until_fits p (drop at s), length-drop at s)

pub printed : (x : ℕ) → is_print x ≡ true → unprinted x ≡ false
unfolding unprinted
printed x t = ap not t

pub unprinted_is : (x : ℕ) → is_print x ≡ false → unprinted x ≡ true
unfolding unprinted
unprinted_is x t = ap not t
