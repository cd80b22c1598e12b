-- Refusal numbers: the smallest that holds.
use Rattle.std.specs.Prelude.{ℕ, Bool}
use Rattle.text.specs.Test.{whether◌then◌else◌}

infixr 15 ◌when◌else◌
-- n where the test holds, else m
abbrev pub ◌when◌else◌ : ℕ → Bool → ℕ → ℕ
n when t else m = whether t then n else m

-- no number: nothing is to be refused
abbrev pub clear : ℕ
clear = 255
