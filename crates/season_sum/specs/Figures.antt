-- Figures as the text of a report.
use Rattle.std.specs.Prelude.{ℕ, List}
use Rattle.text.specs.String.{Str, joined}
use Rattle.season.specs.Report.{figure_line}

-- a line for each figure
unfoldable pub report_text : List ℕ → Str
report_text ns = joined figure_line ns

-- the longest line: a number of 64 bits has 20 digits at most
abbrev pub max_figure_line : ℕ
max_figure_line = 21
