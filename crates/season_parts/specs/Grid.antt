-- The grid of modes and outcomes.
use Rattle.std.specs.Prelude.{ℕ, ◌+◌, ◌≤◌, List, [], ◌++◌, get_or}
use Rattle.limits.specs.Limits.{max_log_lines}
use Rattle.text.specs.String.{Str, bytes}
use Rattle.season_parts.specs.Columns.{column}

-- "columns permit, denied by rule, denied by default, and the sums"
unfoldable pub grid_row : Str → ℕ → ℕ → ℕ → Str
grid_row name a b c = name ++ column 11 a ++ column 17 b ++ column 19 c ++ column 11 (a + b + c) ++ bytes "\n"

-- "rows read, write", and the sums
unfoldable pub grid_lines : ℕ → ℕ → ℕ → ℕ → ℕ → ℕ → Str
grid_lines a b c x y z =
    bytes "          permit   denied by rule  denied by default        all\n" ++
    grid_row (bytes "read ") a b c ++ grid_row (bytes "write") x y z ++ grid_row (bytes "all  ") (a + x) (b + y) (c + z)

-- ---- for programs

-- row r, column c
abbrev pub cell : List (List ℕ) → ℕ → ℕ → ℕ
cell grid r c = get_or (get_or grid r []) c 0

-- no cell of the grid is more than a log has lines
abbrev pub FewCells : List (List ℕ) → Type 0
FewCells grid = (r c : ℕ) → cell grid r c ≤ max_log_lines

-- the lines of a grid of two rows
abbrev pub lines_of : List (List ℕ) → Str
lines_of g = grid_lines (cell g 0 0) (cell g 0 1) (cell g 0 2) (cell g 1 0) (cell g 1 1) (cell g 1 2)

-- the longest grid
abbrev pub max_grid : ℕ
max_grid = 322
