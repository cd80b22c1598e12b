-- Numbers as text.
use Rattle.std.specs.Prelude.{ℕ, zero, suc, ◌+◌, ◌/◌, ◌%◌, [], ◌∷◌, ◌++◌, ltb}
use Rattle.text.specs.Test.{whether◌then◌else◌}
use Rattle.text.specs.String.{Str}

-- the decimal digits of n; of a longer number the last k
unfoldable pub digits : ℕ → ℕ → Str
digits zero n = []
digits (suc k) n = (whether ltb n 10 then [] else digits k (n / 10)) ++ ((48 + n % 10) ∷ [])

-- a number of 64 bits, which has 20 digits at most
unfoldable pub decimal : ℕ → Str
decimal n = digits 20 n
