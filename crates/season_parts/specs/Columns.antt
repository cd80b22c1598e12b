-- Columns of text.
use Rattle.std.specs.Prelude.{ℕ, ◌-◌, ◌++◌, length, replicate}
use Rattle.text.specs.String.{Str}
use Rattle.text_make.specs.Decimal.{decimal}

-- a number at the right of a column; one that is longer stands whole
unfoldable pub column : ℕ → ℕ → Str
column width n = replicate (width - length (decimal n)) 32 ++ decimal n
