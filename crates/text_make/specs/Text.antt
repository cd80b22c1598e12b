-- Facts as text, and text up to a length.
use Rattle.std.specs.Prelude.{ℕ, [], ◌++◌, ltb, length}
use Rattle.text.specs.Test.{whether◌then◌else◌}
use Rattle.text.specs.String.{Str, bytes}
use Rattle.text_make.specs.Decimal.{decimal}

-- nothing of a text that is longer
unfoldable pub up_to : ℕ → Str → Str
up_to most s = whether ltb most (length s) then [] else s

-- a line with a number: `rule 5`
unfoldable pub fact : Str → ℕ → Str
fact name n = name ++ decimal n ++ bytes "\n"
