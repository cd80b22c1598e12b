-- A count's share of all, and its bar.
use Rattle.std.specs.Prelude.{ℕ, ◌*◌, ◌-◌, ◌/◌, ◌%◌, ◌++◌, eqb, ltb, replicate}
use Rattle.text.specs.Test.{whether◌then◌else◌}
use Rattle.text.specs.String.{Str, bytes}
use Rattle.text_make.specs.Decimal.{decimal}
use Rattle.season_parts.specs.Columns.{column}

-- in tenths of a percent, rounded down; nothing of nothing
unfoldable pub tenths : ℕ → ℕ → ℕ
tenths n all = whether eqb all 0 then 0 else n * 1000 / all

-- " 44.5%"
unfoldable pub share : ℕ → ℕ → Str
share n all = column 5 (tenths n all / 10) ++ bytes "." ++ decimal (tenths n all % 10) ++ bytes "%"

-- "at most 40 columns"
abbrev pub bar_columns : ℕ
bar_columns = 40

-- n or the nearer of two bounds
unfoldable pub between : ℕ → ℕ → ℕ → ℕ
between low high n = whether ltb n low then low else (whether ltb high n then high else n)

-- "proportional to the largest count, rounded down but at least one column for a rule that decided"
unfoldable pub bar_length : ℕ → ℕ → ℕ
bar_length n most = between 1 bar_columns (whether eqb most 0 then 0 else n * bar_columns / most)

-- a column of its own
unfoldable pub bar : ℕ → ℕ → Str
bar n most = replicate (bar_length n most) 35 ++ replicate (bar_columns - bar_length n most) 32
