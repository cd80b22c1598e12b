-- Figures added place by place.
use Rattle.std.specs.Prelude.{ℕ, ◌+◌, List, [], ◌∷◌}
use Rattle.limits.specs.Sizes.{report_lines}
use Rattle.text.specs.Test.{whether◌then◌else◌}
use Rattle.text.specs.String.{Str}
use Rattle.season_sum.specs.Outcome.{Outcome}
use Rattle.season_sum.specs.Outcome.{Good, NoFigure, LineCount, TooLarge}
use Rattle.season_sum.specs.Reading.{fits, reading, figures_of}

-- all sums fit; or the line of the first that does not, l being that of the first figures
unfoldable pub adding : ℕ → List ℕ → List ℕ → Outcome
adding l [] ns = Good
adding l (m ∷ ms) [] = Good
adding l (m ∷ ms) (n ∷ ns) = whether fits (m + n) then adding (l + 1) ms ns else TooLarge l

-- the sums, up to the first that does not fit
unfoldable pub sums_of : List ℕ → List ℕ → List ℕ
sums_of [] ns = []
sums_of (m ∷ ms) [] = m ∷ ms
sums_of (m ∷ ms) (n ∷ ns) = whether fits (m + n) then (m + n) ∷ sums_of ms ns else m ∷ ms

-- ---- a report added to sums

unfoldable pub where_good : {A : Type 0} → Outcome → A → (Outcome → A) → A
where_good Good a f = a
where_good (NoFigure l) a f = f (NoFigure l)
where_good (LineCount l) a f = f (LineCount l)
where_good (TooLarge l) a f = f (TooLarge l)

unfoldable pub after_report : Str → List ℕ → Outcome
after_report text sums = where_good (reading report_lines 1 text) (adding 1 sums (figures_of report_lines text)) (λ o. o)

unfoldable pub sums_after : Str → List ℕ → List ℕ
sums_after text sums = where_good (reading report_lines 1 text) (sums_of sums (figures_of report_lines text)) (λ o. sums)
