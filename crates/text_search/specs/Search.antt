-- How far one reads in a string before something comes.
use Rattle.std.specs.Prelude.{ℕ, suc, Bool, not, [], ◌∷◌, eqb}
use Rattle.text.specs.Test.{whether◌then◌else◌}
use Rattle.text.specs.Byte.{is_print}
use Rattle.text.specs.String.{Str}

-- how many bytes stand before the first that passes the test; all of them where none does
unfoldable pub until : (ℕ → Bool) → Str → ℕ
until p [] = 0
until p (b ∷ s) = whether p b then 0 else suc (until p s)

-- a byte that does not print
unfoldable pub unprinted : ℕ → Bool
unprinted x = not (is_print x)

-- the test for one byte
abbrev pub is : ℕ → ℕ → Bool
is b x = eqb x b
