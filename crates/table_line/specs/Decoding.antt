-- The answers of the programs, which decode a line as far as there are digits.
use Rattle.std.specs.Prelude.{ℕ, ◌+◌, ◌*◌, List, [], ◌∷◌, length, Option, None, Some}
use Rattle.std.proofs.Math.Option as frames
use Rattle.text.specs.Test.{◌and◌, whether◌then◌else◌}
use Rattle.text.specs.Byte.{is_hex, hex_value}
use Rattle.text.specs.String.{Str}
use Rattle.table_line.specs.Lines.{frame}
use Rattle.table_line.specs.declared.Line.{Line}

-- the bytes for which the leading pairs of digits stand
unfoldable pub digits : Str → Str
digits [] = []
digits (x ∷ []) = []
digits (x ∷ y ∷ s) = whether is_hex x and is_hex y then (hex_value x * 16 + hex_value y) ∷ digits s else []

-- the length of the frame, and where the next line starts
unfoldable pub taken : ℕ → Str → frames.Option Str → Option Line
taken from l frames.none = None
taken from l (frames.some f) = Some (record { len = length f; next = from + length l })

-- the first of the lines that start at `from`
unfoldable pub first_line : ℕ → List Str → Option Line
first_line from [] = None
first_line from (l ∷ ls) = taken from l (frame l)
