-- A report's text read: its figures, or the first line that is at fault.
use Rattle.std.specs.Prelude.{ℕ, zero, suc, ◌+◌, ◌*◌, ◌-◌, ◌^◌, Bool, List, [], ◌∷◌, eqb, ltb}
use Rattle.std.proofs.Math.Option.{Option, none, some}
use Rattle.text.specs.Test.{◌and◌, whether◌then◌else◌}
use Rattle.text.specs.Byte.{is_digit}
use Rattle.text.specs.String.{Str}
use Rattle.season_sum.specs.Outcome.{Outcome}
use Rattle.season_sum.specs.Outcome.{Good, NoFigure, LineCount}

-- a number of 64 bits
abbrev pub fits : ℕ → Bool
fits n = ltb n (2 ^ 64)

-- ---- the figure of a line

-- the digit b after the number n
abbrev pub followed : ℕ → ℕ → ℕ
followed n b = n * 10 + (b - 48)

-- b is a digit that may follow the number n: n does not begin with 0, and the longer number fits
unfoldable pub continues : ℕ → ℕ → Bool
continues n b = is_digit b and ltb 0 n and fits (followed n b)

-- the number that is n so far, up to an LF, and the text after that
unfoldable pub number_from : ℕ → Str → Option (ℕ × Str)
number_from n [] = none
number_from n (b ∷ s) = whether eqb b 10 then some (n, s) else (whether continues n b then number_from (followed n b) s else none)

-- "decimal lines without leading zeros": the number that the first line of a text is, and the text after that line
unfoldable pub figure_of : Str → Option (ℕ × Str)
figure_of [] = none
figure_of (b ∷ s) = whether is_digit b then number_from (b - 48) s else none

-- ---- the lines, one after another

-- what comes of a figure and the text after its line
unfoldable pub onward : {A : Type 0} → A → Option (ℕ × Str) → (ℕ → Str → A) → A
onward bad none k = bad
onward bad (some p) k = k p.0 p.1

-- a text has n lines, each a figure; or the first line that is none, or that is there too many or too few. l is the number of the next line.
unfoldable pub reading : ℕ → ℕ → Str → Outcome
reading zero l [] = Good
reading zero l (b ∷ s) = LineCount l
reading (suc n) l [] = LineCount l
reading (suc n) l (b ∷ s) = onward (NoFigure l) (figure_of (b ∷ s)) (λ m t. reading n (l + 1) t)

-- the figures of the first n lines, up to the first that is none
unfoldable pub figures_of : ℕ → Str → List ℕ
figures_of zero s = []
figures_of (suc n) s = onward [] (figure_of s) (λ m t. m ∷ figures_of n t)
