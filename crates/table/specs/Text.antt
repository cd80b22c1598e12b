-- A whole rule table text: refused at its first faulty line, or the table that it holds.
use Rattle.std.specs.Prelude.{ℕ, ◌+◌, Bool, true, false, List, [], ◌∷◌, eqb, ltb, length}
use Rattle.limits.specs.Limits.{max_table_text}
use Rattle.text.specs.Test.{whether◌then◌else◌}
use Rattle.text.specs.String.{Str}
use Rattle.text.specs.Refusal.{clear}
use Rattle.table_line.specs.Lines.{lines}
use Rattle.table.specs.Table.{Table}
use Rattle.table.specs.Refusal.{line_of, Earlier, refusal, first, after}
use Rattle.table.specs.Checked.{Checked}
use Rattle.table.specs.Checked.{Accepted, Refused}

-- ---- the answer

-- the refusal by a number, or what comes next where it is none
unfoldable pub unless : ℕ → ℕ → Checked → Checked
unless number line next = whether eqb number clear then next else Refused number line

-- "the first faulty line, and in it the smallest number"; the lines count from `number`
unfoldable pub judge : ℕ → Earlier → List Str → Checked
judge number before [] = Accepted
judge number before (l ∷ ls) = unless (refusal before (line_of l)) number (judge (number + 1) (after before (line_of l)) ls)

-- "table text over 32,768 bytes (line 0)"; "empty text counts here, at line 1"
unfoldable pub check : Str → Checked
check text =
    whether ltb max_table_text (length text) then Refused 1 0
    else whether eqb (length text) 0 then Refused 4 1
    else judge 1 first (lines text)

unfoldable pub is_accepted : Checked → Bool
is_accepted Accepted = true
is_accepted (Refused n l) = false

-- ---- the table

-- what all the lines tell, after what b tells
unfoldable pub all_told : Earlier → List Str → Earlier
all_told b [] = b
all_told b (l ∷ ls) = all_told (after b (line_of l)) ls

-- "Rules and groups are numbered from 0 in text order."
unfoldable pub table : Earlier → Table
table b = record { groups = b.groups; members = b.members; rules = b.rules }

-- the table that an accepted text holds
unfoldable pub table_of : Str → Table
table_of text = table (all_told first (lines text))
