-- The lines of a text, and the frame that a hex line stands for.
use Rattle.std.specs.Prelude.{ℕ, ◌+◌, ◌*◌, Bool, true, false, List, [], ◌∷◌, eqb}
use Rattle.std.proofs.Math.Option.{Option, none, some}
use Rattle.text.specs.Test.{◌and◌, whether◌then◌else◌}
use Rattle.text.specs.Byte.{is_hex, hex_value}
use Rattle.text.specs.String.{Str}

-- a byte before the lines of the rest: an LF is a line of its own, any other byte begins the first line
unfoldable pub onto : Bool → ℕ → List Str → List Str
onto true b ls = (b ∷ []) ∷ ls
onto false b [] = (b ∷ []) ∷ []
onto false b (l ∷ ls) = (b ∷ l) ∷ ls

-- each line with its LF; bytes after the last LF are a line that lacks it
unfoldable pub lines : Str → List Str
lines [] = []
lines (b ∷ s) = onto (eqb b 10) b (lines s)

-- the byte b before the bytes of the rest, where both read
unfoldable pub pair : Bool → ℕ → Option Str → Option Str
pair true b none = none
pair true b (some f) = some (b ∷ f)
pair false b r = none

-- the bytes for which pairs of digits stand, up to an LF that ends the line
unfoldable pub pairs : Str → Option Str
pairs [] = none
pairs (x ∷ []) = whether eqb x 10 then some [] else none
pairs (x ∷ y ∷ s) = pair (is_hex x and is_hex y) (hex_value x * 16 + hex_value y) (pairs s)

-- at least one byte
unfoldable pub nonempty : Option Str → Option Str
nonempty none = none
nonempty (some []) = none
nonempty (some (b ∷ f)) = some (b ∷ f)

-- "One frame a line: an even, nonzero count of digits 0-9a-f, then LF": the frame, where the line is one
unfoldable pub frame : Str → Option Str
frame l = nonempty (pairs l)
