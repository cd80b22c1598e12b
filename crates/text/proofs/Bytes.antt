-- The tests of bytes that programs make: hex digits, found by subtraction modulo 256, and the bytes of names.
use Rattle.std.proofs.Common.{◌≡◌, ℕ, zero, suc, ◌+◌, ◌%◌, ◌<◌, ◌≤◌, Bool, true, false, not, ◌&&◌, ◌||◌, eqb, leb, refl, ap, ◌∙◌, arith, eqb-true, le-leb, leb-true}
use mathlib.Core.Bool.{xor}
use borrow.Author.Tests.{eqb-false}
use lib.Bits.{bit_or}
use Rattle.text.specs.Byte.{within, is_digit, hex_value, is_name}
use Rattle.text.proofs.Tests.{by, clash, and_left, and_right}

within_true : (lo hi b : ℕ) → lo ≤ b → b ≤ hi → within lo hi b ≡ true
within_true lo hi b h k = rw (le-leb lo b h, le-leb b hi k)

pub within_false : (lo hi b : ℕ) → (lo ≤ b → b ≤ hi → ⊥) → within lo hi b ≡ false
within_false lo hi b h = by (leb lo b) (λ p. by (leb b hi) (λ q. absurd (h (leb-true lo b p) (leb-true b hi q))) (λ q. rw (p, q))) (λ p. rw p)

-- d and l are b - 48 and b - 97 modulo 256
module _ (b d : ℕ) (byte : b < 256) (small : d < 256) (wraps : (d + 48) % 256 ≡ b) where
  pub digit_value : d < 10 → d ≡ hex_value b
  digit_value h = let e : b ≡ d + 48 = omega arith in rw (within_true 48 57 b (omega arith) (omega arith)) (omega arith)

  no_digit : 10 ≤ d → is_digit b ≡ false
  no_digit h = within_false 48 57 b (λ p q. omega arith)

  module _ (l : ℕ) (little : l < 256) (turns : (l + 97) % 256 ≡ b) (h : 10 ≤ d) where
    pub letter_value : l < 6 → l + 10 ≡ hex_value b
    letter_value k = rw (no_digit h, within_true 97 102 b (omega arith) (omega arith)) (omega arith)

    no_letter : 6 ≤ l → within 97 102 b ≡ false
    no_letter k = within_false 97 102 b (λ p q. omega arith)

    pub no_value : 6 ≤ l → 16 ≡ hex_value b
    no_value k = rw (no_digit h, no_letter k)

-- ---- names, by the test that is_name makes

abbrev name_test : ℕ → Bool
name_test b = within 97 122 (bit_or b 32) || within 48 58 b || within 45 46 b || eqb b 95

-- f at each number below n
abbrev below : (ℕ → Bool) → ℕ → Bool
below f zero = true
below f (suc n) = f n && below f n

from_below : (f : ℕ → Bool) (n : ℕ) → below f n ≡ true → (k : ℕ) → k < n → f k ≡ true
from_below f zero e k h = absurd (omega arith)
from_below f (suc n) e k h =
    by (eqb k n) (λ q. ap f (eqb-true k n q) ∙ and_left (f n) (below f n) e)
    (λ q. let apart : k ≡ n → ⊥ = eqb-false k n q in from_below f n (and_right (f n) (below f n) e) k (omega arith))

-- of all 256 bytes, computed
pub name_test_lem : (b : ℕ) → b < 256 → name_test b ≡ is_name b
unfolding xor
name_test_lem b h = alike (name_test b) (is_name b) (from_below (λ (k : ℕ). not (xor (name_test k) (is_name k))) 256 refl b h)
  where
    alike : (a c : Bool) → not (xor a c) ≡ true → a ≡ c
    alike true true e = refl
    alike true false e = clash e refl
    alike false true e = clash e refl
    alike false false e = refl
