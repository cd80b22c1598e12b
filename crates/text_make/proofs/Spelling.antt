-- The digits of a number: those of what is left when the last one is taken, and then that.
use Prim.Native.Nat.{ℕ, zero, suc, ◌+◌, ◌/◌, ◌%◌, ◌<◌}
use native.Mathlib.Omega.{arith}
use borrow.Author.Tests.{lt-ltb, le-ltb, ne_eqb}
use native.Mathlib.Decide.{dec_lt}
use mathlib.Core.Path.{◌≡◌, refl}
use mathlib.Core.List.{[], ◌∷◌, ◌++◌}
use lib.Dec.{eqb}
use Rattle.text.specs.Test.{whether◌then◌else◌}
use Rattle.text.specs.String.{Str}
use Rattle.text_make.specs.Decimal.{digits}

-- the digits of what is left of a number; none where nothing is left
unfoldable pub left : ℕ → ℕ → Str
left k n = whether eqb n 0 then [] else digits k n

pub left_none : (k : ℕ) → left k 0 ≡ []
unfolding left whether◌then◌else◌
left_none k = refl

pub left_some : (k n : ℕ) → (n ≡ 0 → ⊥) → left k n ≡ digits k n
unfolding left whether◌then◌else◌
left_some k n h = rw (ne_eqb n 0 h)

pub last_digit : (k n : ℕ) → digits (suc k) n ≡ left k (n / 10) ++ ((48 + n % 10) ∷ [])
unfolding digits whether◌then◌else◌
last_digit k n = go (dec_lt n 10)
  where
    go : Dec (n < 10) → digits (suc k) n ≡ left k (n / 10) ++ ((48 + n % 10) ∷ [])
    go (yes h) =
        let e : n / 10 ≡ 0 = omega arith in
        rw (lt-ltb n 10 h, e, left_none k)
    go (no h) = rw (le-ltb n 10 (omega arith), left_some k (n / 10) (omega arith))
