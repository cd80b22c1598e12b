-- What reading path text and writing it answer, and what they leave in the lent buffer.
use Rattle.std.specs.Prelude.{ℕ, List, Result, Ok, Err, length, leb}
use Rattle.std.proofs.Math.Option.{Option, none, some, map}
use Rattle.text.specs.Test.{whether◌then◌else◌}
use Rattle.text.specs.String.{Str}
use Rattle.text.specs.Fill.{put}
use Rattle.path.specs.Bytes.{path_bytes}
use Rattle.path.specs.Spells.{read_bytes}
use Rattle.path_read.specs.Text.{path_text}
use Rattle.path_read.specs.TextReader.{read_text}
use Rattle.path_read.specs.Filled.{Filled, Length, Refused}
use Rattle.refusal.specs.Refusal.{number}
use Rattle.refusal.specs.declared.Refusal.{Refusal}

-- path text to path bytes; none where it is not the text of a good path
unfoldable pub bytes_for : Str → Option Str
bytes_for s = map path_bytes (read_text s)

-- path bytes to path text; none where they are not the bytes of a good path
unfoldable pub text_for : Str → Option Str
text_for f = map path_text (read_bytes f)

-- the answer that a program's result is
abbrev pub filled_of : Result ℕ Refusal → Filled
filled_of (Ok n) = Length n
filled_of (Err r) = Refused (number r)

-- 22: "path text, or path bytes given to the writer"; 23: "the path result doesn't fit the lent buffer"
unfoldable pub answer : List ℕ → Option Str → Filled
answer out none = Refused 22
answer out (some s) = whether leb (length s) (length out) then Length (length s) else Refused 23

-- "fill the start of a lent buffer, report the length, and store nothing beyond it"; with a refusal "nothing lent is stored to"
unfoldable pub lent : List ℕ → Option Str → List ℕ
lent out none = out
lent out (some s) = whether leb (length s) (length out) then put out 0 s else out
