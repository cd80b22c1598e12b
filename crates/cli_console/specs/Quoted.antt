-- Which line of a file is shown with a refusal, and how.
use Rattle.std.specs.Prelude.{ℕ, zero, suc, ◌+◌, Bool, [], ◌∷◌, ◌++◌, eqb, length, drop}
use Rattle.text.specs.Test.{whether◌then◌else◌}
use Rattle.text.specs.Byte.{is_print}
use Rattle.text.specs.String.{Str, bytes, joined}
use Rattle.text_search.specs.Search.{until, is}
use Rattle.readable_parts.specs.Parts.{hex_text}

-- ---- the bytes of a line

-- a byte that prints stands for itself, any other in hex after \x
unfoldable pub shown : ℕ → Str
shown b = whether is_print b then b ∷ [] else bytes "\\x" ++ hex_text (b ∷ [])

unfoldable pub quoted : Str → Str
quoted s = joined shown s

-- ---- the lines of a text, counted from 1

-- the text from line n on; there is no line 0
unfoldable pub from_line : ℕ → Str → Str
from_line zero s = s
from_line (suc zero) s = s
from_line (suc (suc n)) s = from_line (suc n) (drop (suc (until (is 10) s)) s)

-- the first line of a text has no LF at its end
unfoldable pub unended : Str → Bool
unended s = eqb (until (is 10) s) (length s)

-- 1 for an LF
unfoldable pub line_feed : ℕ → ℕ
line_feed b = whether eqb b 10 then 1 else 0

-- the number of the line that position p is in; the last line's where p is past them all
unfoldable pub line_number : ℕ → Str → ℕ
line_number zero s = 1
line_number (suc p) [] = 1
line_number (suc p) (b ∷ []) = 1
line_number (suc p) (b ∷ c ∷ s) = line_feed b + line_number p (c ∷ s)
