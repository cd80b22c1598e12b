-- What became of a report.
use Rattle.std.specs.Prelude.{ℕ, Result, Ok, Err}
use Rattle.season_sum.specs.declared.BadReport.{BadReport}
use Rattle.season_sum.specs.declared.BadReport.TheVariants as bad

-- All went well; or the first line that is no figure, that there is not though it should be or is though it should not, or whose sum has more than 64
-- bits.
pub data Outcome : Type 0 where
  Good : Outcome
  NoFigure : (line : ℕ) → Outcome
  LineCount : (line : ℕ) → Outcome
  TooLarge : (line : ℕ) → Outcome

-- ---- which of them a program's value is

abbrev pub refused_as : BadReport → Outcome
refused_as (bad.NoFigure l) = NoFigure l
refused_as (bad.LineCount l) = LineCount l
refused_as (bad.TooLarge l) = TooLarge l

abbrev pub outcome_of : Result (Unit {0}) BadReport → Outcome
outcome_of (Ok _) = Good
outcome_of (Err b) = refused_as b
