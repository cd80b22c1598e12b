-- The page for a person on a season: the rules that decided, those that never did, and the grid.
use Rattle.std.specs.Prelude.{ℕ, ◌+◌, List, ◌++◌, eqb, length, take}
use Rattle.text.specs.Test.{whether◌then◌else◌}
use Rattle.text.specs.String.{Str, bytes}
use Rattle.text_make.specs.Text.{fact}
use Rattle.table.specs.Table.{Rule}
use Rattle.season_parts.specs.Grid.{cell, grid_lines}
use Rattle.cli_season_rules.specs.Rules.{decided_lines, never_lines}

abbrev pub none_line : Str
none_line = bytes "  none\n"

-- where there are no lines
unfoldable pub or_none : Str → Str
or_none lines = whether eqb (length lines) 0 then none_line else lines

-- how many requests there are, and the rules that decided
unfoldable pub decided_part : List Rule → List ℕ → ℕ → Str
decided_part rules counts all =
    fact (bytes "requests ") all ++
    bytes "\n  count   share  bar                                       rule  action  id\n" ++
    or_none (decided_lines rules counts all)

unfoldable pub never_part : List Rule → List ℕ → Str
never_part rules counts =
    bytes "\nA share is of all requests, rounded down; a bar is of the largest count.\n\nrules that never decided\n  rule  action  id\n" ++
    or_none (never_lines 0 rules counts) ++
    bytes "\n"

unfoldable pub sum_of : List (List ℕ) → ℕ
sum_of g = cell g 0 0 + cell g 0 1 + cell g 0 2 + cell g 1 0 + cell g 1 1 + cell g 1 2

unfoldable pub page_of : List Rule → List ℕ → List (List ℕ) → Str
page_of rules counts g =
    decided_part rules counts (sum_of g) ++
    never_part rules counts ++
    grid_lines (cell g 0 0) (cell g 0 1) (cell g 0 2) (cell g 1 0) (cell g 1 1) (cell g 1 2)

-- of the table's rules, their counts and the grid
unfoldable pub page : List Rule → List ℕ → List (List ℕ) → Str
page rules counts g = page_of rules (take (length rules) counts) g
