-- The digits of a number: those of what stands before the last one, and then that.
use Prim.Native.Nat.{ℕ, zero, suc, ◌+◌, ◌/◌, ◌%◌, ◌^◌, ◌≤◌, ◌<◌}
use native.Mathlib.Omega.{arith}
use native.Mathlib.Nat.{pow-zero, pow-suc, div-lt_iff_lt-mul}
use borrow.Author.Tests.{lt-ltb, le-ltb}
use native.Mathlib.Decide.{dec_lt}
use mathlib.Core.Path.{◌≡◌, ap, sym, ◌∙◌}
use lib.Dec.{ltb}
use mathlib.Core.List.{[], ◌∷◌, ◌++◌}
use lib.ListN.{length, length-append}
use Rattle.text.specs.Test.{whether◌then◌else◌}
use Rattle.text.specs.String.{Str}
use Rattle.text_make.specs.Decimal.{digits, decimal}

-- the digits before the last one
unfoldable pub before : ℕ → Str
before n = whether ltb n 10 then [] else decimal (n / 10)

-- a number that has k digits at most has no more with room for one more
one_more : (k n : ℕ) → n < 10 ^ suc k → digits (suc (suc k)) n ≡ digits (suc k) n
unfolding digits whether◌then◌else◌
one_more zero n h = rw (lt-ltb n 10 (omega (arith, h, pow-suc 10 0, pow-zero 10)))
one_more (suc k) n h = go (dec_lt n 10) (one_more k (n / 10))
  where
    go : Dec (n < 10) → (n / 10 < 10 ^ suc k → digits (suc (suc k)) (n / 10) ≡ digits (suc k) (n / 10)) → digits (suc (suc (suc k))) n ≡ digits (suc (suc k)) n
    go (yes s) e = rw (lt-ltb n 10 s)
    go (no s) e = ap (λ (t : Str). (whether ltb n 10 then [] else t) ++ ((48 + n % 10) ∷ [])) (e ((div-lt_iff_lt-mul {k = 10} (omega arith)).1 (omega (arith, h, pow-suc 10 (suc k)))))

pub decimal_then : (n : ℕ) → n < 2 ^ 64 → decimal n ≡ before n ++ ((48 + n % 10) ∷ [])
unfolding decimal before whether◌then◌else◌ digits
decimal_then n h = sym (one_more 19 n (omega arith))

pub before_some : (n : ℕ) → 9 < n → before n ≡ decimal (n / 10)
unfolding before whether◌then◌else◌
before_some n h = rw (le-ltb n 10 (omega arith))

pub before_none : (n : ℕ) → n ≤ 9 → before n ≡ []
unfolding before whether◌then◌else◌
before_none n h = rw (lt-ltb n 10 (omega arith))

digits_short : (k n : ℕ) → length (digits k n) ≤ k
unfolding digits whether◌then◌else◌
digits_short zero n = omega arith
digits_short (suc k) n = go (dec_lt n 10) (digits_short k (n / 10))
  where
    go : Dec (n < 10) → length (digits k (n / 10)) ≤ k → length (digits (suc k) n) ≤ suc k
    go (yes h) s = rw (lt-ltb n 10 h) (omega arith)
    go (no h) s = rw (le-ltb n 10 (omega arith)) (omega (arith, s, length-append (digits k (n / 10)) ((48 + n % 10) ∷ [])))

pub decimal_short : (n : ℕ) → length (decimal n) ≤ 20
unfolding decimal
decimal_short n = digits_short 20 n

pub decimal_long : (n : ℕ) → n < 2 ^ 64 → length (decimal n) ≡ length (before n) + 1
decimal_long n h = ap length (decimal_then n h) ∙ length-append (before n) _
