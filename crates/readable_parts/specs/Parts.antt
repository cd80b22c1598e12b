-- The parts of a readable line: how each is shown, which reads a frame and makes text, and packed, which reads the text and makes the bytes of
-- a frame.
use Rattle.std.specs.Prelude.{ℕ, ◌+◌, ◌-◌, ◌/◌, ◌%◌, Bool, cond, List, [], ◌∷◌, ◌++◌, eqb, leb, ltb, length, drop, get_or}
use Rattle.std.proofs.Math.Option.{Option, none, some}
use Rattle.limits.specs.Limits.{max_string}
use Rattle.text.specs.Test.{◌and◌, whether◌then◌else◌}
use Rattle.text.specs.String.{Str, bytes, same, joined}
use Rattle.text.specs.Frame.{Parsed, got, unread, Reader, ◌>>=◌, ret, byte, part, string, string_bytes}
use Rattle.table_line.specs.Lines.{lines, frame}
use Rattle.path_read.specs.Text.{escaped}
use Rattle.path_read.specs.TextReader.{literal, value}
use Rattle.path_read.specs.Calls.{bytes_for, text_for}
use Rattle.table.specs.Frame.{unknown}

-- ---- the parts of a line

-- a reader for each sort of part: all that show, or all that pack
pub record Parts : Type 0 where
  pub string : Reader Str
  pub time : Reader Str
  pub path : Reader Str
  -- two words that stand for the code byte n and the next one
  pub code : ℕ → Str → Str → Reader Str
  -- a byte of the form that stands for itself
  pub plain : ℕ → Reader Str

-- by the byte that names the part in a form: S (83) is a string, T (84) the creation time, P (80) a path, A (65) the action, M (77) the mode,
-- K (75) the kind of subject; any other byte stands for itself
unfoldable pub part_of : Parts → ℕ → Reader Str
part_of p c =
    whether eqb c 83 then p.string
    else whether eqb c 84 then p.time
    else whether eqb c 80 then p.path
    else whether eqb c 65 then p.code 0 (bytes "deny") (bytes "permit")
    else whether eqb c 77 then p.code 1 (bytes "read") (bytes "write")
    else whether eqb c 75 then p.code 0 (bytes "user") (bytes "group")
    else p.plain c

-- what there is was read, up to t
unfoldable pub rest : Option Str → ℕ → Parsed Str
rest none t = unread
rest (some w) t = got w t

-- what g makes of the rest, with which the frame or the line ends
unfoldable pub of_rest : (Str → Option Str) → Reader Str
of_rest g s at = whether ltb at (length s) then rest (g (drop at s)) (length s) else unread

-- ---- shown, from a frame

-- in brackets, with the escapes of path text
unfoldable pub quoted : Str → Str
quoted s = bytes "[" ++ (joined escaped s ++ bytes "]")

-- the digit that stands for n
abbrev pub hex_digit : ℕ → ℕ
hex_digit n = cond (ltb n 10) (48 + n) (87 + n)

unfoldable pub hex_pair : ℕ → Str
hex_pair b = hex_digit (b / 16) ∷ hex_digit (b % 16) ∷ []

unfoldable pub hex_text : Str → Str
hex_text f = joined hex_pair f

-- no string of a table is longer
unfoldable pub shown_string : Reader Str
shown_string = do
  s ← string
  whether leb (length s) max_string then ret (quoted s) else unknown

-- 8 bytes, with which the frame ends
unfoldable pub shown_time : Reader Str
shown_time f at = whether eqb (length f - at) 8 then got (hex_text (drop at f)) (length f) else unread

-- path bytes, with which the frame ends
unfoldable pub shown_path : Reader Str
shown_path = of_rest text_for

unfoldable pub shown_code : ℕ → Str → Str → Reader Str
shown_code n a b = do
  c ← byte
  whether eqb c n then ret a else whether eqb c (n + 1) then ret b else unknown

unfoldable pub shown_plain : ℕ → Reader Str
shown_plain c = ret (c ∷ [])

unfoldable pub shown : Parts
shown = record { string = shown_string; time = shown_time; path = shown_path; code = shown_code; plain = shown_plain }

-- ---- packed, from a readable line

-- [value]
unfoldable pub packed_string : Reader Str
packed_string = do
  b ← literal 91
  v ← value max_string
  ret (string_bytes v)

-- the frame of a single hex line
unfoldable pub alone : List Str → Option Str
alone [] = none
alone (l ∷ []) = frame l
alone (l ∷ m ∷ ls) = none

-- 16 digits, with which the line ends
unfoldable pub packed_time : Reader Str
packed_time s at = whether eqb (length s - at) 16 then rest (alone (lines (drop at s ++ (10 ∷ [])))) (length s) else unread

-- path text, with which the line ends
unfoldable pub packed_path : Reader Str
packed_path = of_rest bytes_for

-- w stands at `at`
unfoldable pub stands_at : Str → Str → ℕ → Bool
stands_at w s at = leb (at + length w) (length s) and same (part s at (at + length w)) w

unfoldable pub packed_code : ℕ → Str → Str → Reader Str
packed_code n a b s at =
    whether stands_at a s at then got (n ∷ []) (at + length a)
    else whether stands_at b s at then got ((n + 1) ∷ []) (at + length b)
    else unread

unfoldable pub packed_plain : ℕ → Reader Str
packed_plain c s at = whether ltb at (length s) and eqb (get_or s at 0) c then got [] (at + 1) else unread

unfoldable pub packed : Parts
packed = record { string = packed_string; time = packed_time; path = packed_path; code = packed_code; plain = packed_plain }
