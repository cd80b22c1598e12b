-- What one insertion does to a set's digits; what its ones and its trailing zeros say.
use mathlib.Core.Path.{◌≡◌, refl, sym, ap, ◌∙◌}
use mathlib.Core.Bool.{false, ◌||◌}
use Prim.Native.Nat.{ℕ, zero, suc, ◌*◌, ◌/◌, ◌%◌, ◌^◌, ◌≤◌, ◌<◌}
use native.Mathlib.Nat.{one-mul, div-one, mod-lt}
use native.Mathlib.Numerals.{one-add}
use native.Mathlib.Omega.{arith}
use borrow.Author.Tests.{eqb-true, eqb-false}
use lib.Dec.{eqb}
use lib.Bits.{bit_or, or_shr, or_mod, or_zero_r, shifted_half, shifted_even}
use lib.Pow.{shr-shr, shl_exact}
use Rattle.text.proofs.Tests.{by}
use Rattle.table_membership.specs.Set.{insert_of, has_of}

-- ---- the digit at g, by recursion

unfoldable pub digit : ℕ → ℕ → ℕ
digit x zero = x % 2
digit x (suc g) = digit (x / 2) g

pub digit_is : (x g : ℕ) → x / 2 ^ g % 2 ≡ digit x g
unfolding digit
digit_is x zero = ap (λ (y : ℕ). y % 2) (div-one x)
digit_is x (suc g) =
    ap (λ (k : ℕ). x / 2 ^ k % 2) (sym (one-add g)) ∙ ap (λ (y : ℕ). y % 2) (sym (shr-shr x 1 g)) ∙ digit_is (x / 2) g

pub digit_small : (x g : ℕ) → digit x g < 2
unfolding digit
digit_small x zero = mod-lt x (omega arith)
digit_small x (suc g) = digit_small (x / 2) g

-- ---- 2 ^ g put in: the lowest digit, and the rest

low_one : (n : ℕ) → n < 2 → bit_or n 1 ≡ 1
low_one zero h = refl
low_one (suc zero) h = refl
low_one (suc (suc n)) h = absurd (omega arith)

module _ (x : ℕ) where
  half_zero : bit_or x 1 / 2 ≡ x / 2
  half_zero = or_shr x 1 1 ∙ or_zero_r (x / 2)

  odd_zero : bit_or x 1 % 2 ≡ 1
  odd_zero = or_mod x 1 1 ∙ low_one (x % 2) (mod-lt x (omega arith))

  half_suc : (g : ℕ) → bit_or x (2 ^ suc g) / 2 ≡ bit_or (x / 2) (2 ^ g)
  half_suc g =
      or_shr x (2 ^ suc g) 1 ∙ ap (λ (y : ℕ). bit_or (x / 2) (y / 2)) (sym (one-mul (2 ^ suc g))) ∙ ap (bit_or (x / 2)) (shifted_half 1 g ∙ one-mul (2 ^ g))

  odd_suc : (g : ℕ) → bit_or x (2 ^ suc g) % 2 ≡ x % 2
  odd_suc g =
      or_mod x (2 ^ suc g) 1 ∙ ap (λ (y : ℕ). bit_or (x % 2) (y % 2)) (sym (one-mul (2 ^ suc g))) ∙ ap (bit_or (x % 2)) (shifted_even 1 g) ∙ or_zero_r (x % 2)

digit_same : (x g : ℕ) → digit (bit_or x (2 ^ g)) g ≡ 1
unfolding digit
digit_same x zero = odd_zero x
digit_same x (suc g) = ap (λ (y : ℕ). digit y g) (half_suc x g) ∙ digit_same (x / 2) g

digit_other : (x g h : ℕ) → (g ≡ h → ⊥) → digit (bit_or x (2 ^ g)) h ≡ digit x h
unfolding digit
digit_other x zero zero n = absurd (n refl)
digit_other x zero (suc h) n = ap (λ (y : ℕ). digit y h) (half_zero x)
digit_other x (suc g) zero n = odd_suc x g
digit_other x (suc g) (suc h) n = ap (λ (y : ℕ). digit y h) (half_suc x g) ∙ digit_other (x / 2) g h (λ e. n (ap suc e))

-- after one insertion a group is in the set if it is the new one, or was there
pub has_insert : (x g h : ℕ) → has_of (insert_of x g) h ≡ (eqb g h || has_of x h)
has_insert x g h =
    by (eqb g h)
    (λ t. let e : g ≡ h = eqb-true g h t in rw (t, ← e, digit_is (bit_or x (2 ^ g)) g, digit_same x g))
    (λ t. rw (t, digit_is (bit_or x (2 ^ g)) h, digit_other x g h (eqb-false g h t), ← digit_is x h))

digit_none : (g : ℕ) → digit 0 g ≡ 0
unfolding digit
digit_none zero = refl
digit_none (suc g) = digit_none g

pub has_none : (g : ℕ) → has_of 0 g ≡ false
has_none g = rw (digit_is 0 g, digit_none g)

-- ---- what the code's shift gives

pub shifted_one : (g : ℕ) → g < 64 → (1 * 2 ^ g) % 2 ^ 64 ≡ 2 ^ g
shifted_one g h = shl_exact {a = 1} 1 g 64 (omega arith) (omega arith) ∙ one-mul (2 ^ g)

-- ---- a set without digits is empty

pub no_digits : (n x : ℕ) → x ≤ n → ((g : ℕ) → digit x g ≡ 0) → x ≡ 0
unfolding digit
no_digits zero x h d = omega arith
no_digits (suc n) x h d =
    let a : x % 2 ≡ 0 = d 0 in
    let b : x / 2 ≡ 0 = no_digits n (x / 2) (omega arith) (λ g. d (suc g)) in
    omega arith
