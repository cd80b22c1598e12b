-- What is told of a report that is refused.
use Rattle.std.specs.Prelude.{ℕ, [], ◌++◌}
use Rattle.text.specs.String.{Str, bytes}
use Rattle.cli_refusal.specs.Refusal.{place}
use Rattle.season_sum.specs.Outcome.{Outcome}
use Rattle.season_sum.specs.Outcome.{Good, NoFigure, LineCount, TooLarge}

-- the line that is at fault; there is no line 0
unfoldable pub line_of : Outcome → ℕ
line_of Good = 0
line_of (NoFigure l) = l
line_of (LineCount l) = l
line_of (TooLarge l) = l

unfoldable pub reason : Outcome → Str
reason Good = []
reason (NoFigure l) = bytes ": not a decimal number of 64 bits at most, without leading zeros\n"
reason (LineCount l) = bytes ": a report has 262 lines\n"
reason (TooLarge l) = bytes ": the sum has more than 64 bits\n"

-- `refused at line 5 of week1.report: not a decimal number ..`
unfoldable pub refused_report : Str → Outcome → Str
refused_report name o = bytes "refused" ++ place (line_of o) ++ bytes " of " ++ name ++ reason o
