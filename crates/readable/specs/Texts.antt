-- Whole texts, converted line by line; and what the two calls answer and leave in the lent buffer.
use Rattle.std.specs.Prelude.{ℕ, ◌+◌, ◌-◌, ◌≡◌, List, [], ◌∷◌, ◌++◌, Result, Ok, Err, leb, length}
use Rattle.std.proofs.Math.Option.{Option, none, some}
use Rattle.limits.specs.Limits.{max_table_text}
use Rattle.text.specs.Test.{whether◌then◌else◌}
use Rattle.text.specs.String.{Str}
use Rattle.text.specs.Fill.{put}
use Rattle.table_line.specs.Lines.{lines}
use Rattle.table.specs.Text.{check}
use Rattle.table.specs.Checked.{Checked}
use Rattle.table.specs.Checked as checked
use Rattle.readable_lines.specs.Lines.{shown_line, packed_line}
use Rattle.readable.specs.Converted.{Converted, Length, Refused, Unread, NoRoom}
use Rattle.readable.specs.Ended as ended
use Rattle.readable.specs.Ended.{Ended}
use Rattle.readable.specs.declared.Unconverted.{Unconverted}
use Rattle.readable.specs.declared.Unconverted.TheVariants as why
use Rattle.readable.specs.declared.Stopped.{Stopped}
use Rattle.readable.specs.declared.Stopped.TheVariants as stops

-- ---- the answers that the programs' results are

abbrev pub ended_of : Result ℕ Stopped → Ended
ended_of (Ok n) = ended.All n
ended_of (Err (stops.Unread l)) = ended.Unread l
ended_of (Err stops.Full) = ended.Full

abbrev pub converted_of : Result ℕ Unconverted → Converted
converted_of (Ok n) = Length n
converted_of (Err (why.Refused n l)) = Refused n l
converted_of (Err (why.Unread l)) = Unread l
converted_of (Err why.NoRoom) = NoRoom

-- ---- line after line, converted by g, into a buffer with so much room; n is the number of the next line, and `at` where it is to be stored

-- one line, and then k, from where the next is to be stored
unfoldable pub onward : ℕ → ℕ → ℕ → Option Str → (ℕ → Ended) → Ended
onward room n at none k = ended.Unread n
onward room n at (some w) k = whether leb (length w) (room - at) then k (at + length w) else ended.Full

-- all lines were converted, to so many bytes; or the number of the first that g does not convert; or there is no room for one
unfoldable pub ending : (Str → Option Str) → ℕ → ℕ → ℕ → List Str → Ended
ending g room n at [] = ended.All at
ending g room n at (l ∷ ls) = onward room n at (g l) (λ to. ending g room (n + 1) to ls)

-- the same of what is stored
unfoldable pub storing : ℕ → ℕ → Option Str → (ℕ → Str) → Str
storing room at none k = []
storing room at (some w) k = whether leb (length w) (room - at) then w ++ k (at + length w) else []

-- what was stored before the end
unfoldable pub stored : (Str → Option Str) → ℕ → ℕ → List Str → Str
stored g room at [] = []
stored g room at (l ∷ ls) = storing room at (g l) (λ to. stored g room to ls)

-- ---- the calls

-- the answer of `show`, by how its lines ended
unfoldable pub shown_as : Ended → Converted
shown_as (ended.All n) = Length n
shown_as (ended.Unread l) = Unread l
shown_as ended.Full = NoRoom

-- the table's refusal; or its readable text, line by line, as far as there is room
unfoldable pub show_answer : Checked → Str → List ℕ → Converted
show_answer (checked.Refused n l) text out = Refused n l
show_answer checked.Accepted text out = shown_as (ending shown_line (length out) 1 0 (lines text))

-- with a refusal "nothing lent is stored to"
unfoldable pub show_lent : Checked → Str → List ℕ → List ℕ
show_lent (checked.Refused n l) text out = out
show_lent checked.Accepted text out = put out 0 (stored shown_line (length out) 0 (lines text))

-- the refusal of the table that was made; or that table, where there is room
unfoldable pub made_answer : Checked → Str → List ℕ → Converted
made_answer (checked.Refused n l) table out = Refused n l
made_answer checked.Accepted table out = whether leb (length table) (length out) then Length (length table) else NoRoom

unfoldable pub made_lent : Checked → Str → List ℕ → List ℕ
made_lent (checked.Refused n l) table out = out
made_lent checked.Accepted table out = whether leb (length table) (length out) then put out 0 table else out

-- the number of the first line that is not of the readable form; 1 for "table text over 32,768 bytes (line 0)"; or by the table that was made
unfoldable pub pack_answer : Ended → Str → List ℕ → Converted
pack_answer (ended.All n) table out = made_answer (check table) table out
pack_answer (ended.Unread l) table out = Unread l
pack_answer ended.Full table out = Refused 1 0

unfoldable pub pack_lent : Ended → Str → List ℕ → List ℕ
pack_lent (ended.All n) table out = made_lent (check table) table out
pack_lent (ended.Unread l) table out = out
pack_lent ended.Full table out = out

-- the table is made in a buffer of its own, which has room for the longest
unfoldable pub packed_end : Str → Ended
packed_end text = ending packed_line max_table_text 1 0 (lines text)

unfoldable pub packed_table : Str → Str
packed_table text = stored packed_line max_table_text 0 (lines text)

-- ---- what each function answers, r, and makes of the buffer `out`, out'

-- the lines of the text, converted by g
abbrev pub Converts : (Str → Option Str) → Str → List ℕ → List ℕ → Ended → Type 0
Converts g text out out' r = (r ≡ ending g (length out) 1 0 (lines text)) × (out' ≡ put out 0 (stored g (length out) 0 (lines text)))

abbrev pub Shows : Str → List ℕ → List ℕ → Converted → Type 0
Shows table out out' r = (r ≡ show_answer (check table) table out) × (out' ≡ show_lent (check table) table out)

-- a table that was made, handed out
abbrev pub Makes : Str → List ℕ → List ℕ → Converted → Type 0
Makes table out out' r = (r ≡ made_answer (check table) table out) × (out' ≡ made_lent (check table) table out)

abbrev pub Packs : Str → List ℕ → List ℕ → Converted → Type 0
Packs text out out' r = (r ≡ pack_answer (packed_end text) (packed_table text) out) × (out' ≡ pack_lent (packed_end text) (packed_table text) out)
