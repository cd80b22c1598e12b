-- A quotient that is 0 where nothing is divided by, and the columns of a bar.
use Rattle.std.proofs.Common.{◌≡◌, ℕ, ◌*◌, ◌/◌, ◌<◌, min, max, arith, ◌∙◌, eq-eqb, ap, Option, None, Some, eqb}
use native.Mathlib.Decide.{dec_lt}
use borrow.Author.Tests.{lt-ltb, le-ltb, ne_eqb}
use Rattle.std.specs.Option.{SomeIff, unwrap_or}
use Rattle.text.specs.Test.{whether◌then◌else◌}
use Rattle.season_parts.specs.Figures.{between, bar_length}

pub quotient : (o : Option ℕ) (n all : ℕ) → SomeIff o (0 < all) (n / all) → unwrap_or o 0 ≡ (whether eqb all 0 then 0 else n / all)
unfolding whether◌then◌else◌
quotient None n all h = let e : all ≡ 0 = omega (arith, h) in rw (eq-eqb all 0 e)
quotient (Some x) n all (p, e) = rw (ne_eqb all 0 (omega (arith, p))) e

clamped : (n : ℕ) → max 1 (min n 40) ≡ between 1 40 n
unfolding between whether◌then◌else◌
clamped n = go (dec_lt n 1) (dec_lt 40 n)
  where
    go : Dec (n < 1) → Dec (40 < n) → max 1 (min n 40) ≡ between 1 40 n
    go (yes l) m = rw (lt-ltb n 1 l) (omega arith)
    go (no l) (yes m) = rw (le-ltb n 1 (omega arith), lt-ltb 40 n m) (omega arith)
    go (no l) (no m) = rw (le-ltb n 1 (omega arith), le-ltb 40 n (omega arith)) (omega arith)

pub bar_is : (o : Option ℕ) (n most : ℕ) → SomeIff o (0 < most) (n * 40 / most) → max 1 (min (unwrap_or o 0) 40) ≡ bar_length n most
unfolding bar_length
bar_is o n most h = clamped (unwrap_or o 0) ∙ ap (between 1 40) (quotient o (n * 40) most h)
