-- What is printed for a path that is read or written.
use Rattle.std.specs.Prelude.{ℕ, ◌++◌, Result, Ok, Err}
use Rattle.std.proofs.Math.Option.{Option, none, some, map}
use Rattle.text.specs.String.{Str, bytes}
use Rattle.path_read.specs.Calls.{bytes_for, text_for}
use Rattle.refusal.specs.Refusal.{number}
use Rattle.refusal.specs.declared.Refusal.{Refusal}
use Rattle.readable_parts.specs.Parts.{hex_text}

unfoldable pub hex_line : Str → Str
hex_line f = hex_text f ++ bytes "\n"

unfoldable pub plain_line : Str → Str
plain_line s = s ++ bytes "\n"

-- the bytes of a path text in hex; a refusal has words of its own
unfoldable pub bytes_line : Str → Option Str
bytes_line text = map hex_line (bytes_for text)

-- the text of path bytes
unfoldable pub text_line : Str → Option Str
text_line f = map plain_line (text_for f)

-- a refusal by its number
abbrev pub by_number : Result Str Refusal → Result Str ℕ
by_number (Ok s) = Ok s
by_number (Err r) = Err (number r)

-- what a program answers that makes such a line: the line; or, where there is none, 22
unfoldable pub line_answer : Option Str → Result Str ℕ
line_answer (some s) = Ok s
line_answer none = Err 22
