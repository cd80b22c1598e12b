-- What the programs that make the text of a report answer.
use Rattle.std.specs.Prelude.{ℕ, List, [], ◌∷◌, ◌++◌, Result, Ok, Err}
use Rattle.text.specs.String.{joined}
use Rattle.table.specs.Checked.{Accepted}
use Rattle.refusal.specs.Refusal.{number}
use Rattle.refusal.specs.declared.fault.Fault.{Fault}
use Rattle.season.specs.Report.{figure_line}
use Rattle.season.specs.Calls.{answered, stored}
use Rattle.season.specs.declared.Reported.{Reported}
use Rattle.season.specs.declared.Reported.TheVariants.{Length, Refused}
use Rattle.season_count.specs.Counts.{cell_of}
use Rattle.season_count.specs.declared.count.Tally.{Tally}

-- room for the line of any number of 64 bits
abbrev pub line_room : ℕ
line_room = 21

-- the six cells, row after row
abbrev pub cells_in : List (List ℕ) → List ℕ
cells_in g = cell_of g 0 0 ∷ cell_of g 0 1 ∷ cell_of g 0 2 ∷ cell_of g 1 0 ∷ cell_of g 1 1 ∷ cell_of g 1 2 ∷ []

-- the figures of a report: the counts of the rules, and the cells
abbrev pub figures_in : Tally → List ℕ
figures_in tally = tally.rules ++ cells_in tally.grid

-- which answer of `season_answer` a program's value is
abbrev pub reported_of : Result ℕ Fault → Reported
reported_of (Ok len) = Length len
reported_of (Err f) = Refused (number f.refusal) f.line

-- the text of these figures, where it fits
abbrev pub hands_out : List ℕ → List ℕ → Reported
hands_out figures out = answered Accepted (joined figure_line figures) out

abbrev pub left_in : List ℕ → List ℕ → List ℕ
left_in figures out = stored Accepted (joined figure_line figures) out
