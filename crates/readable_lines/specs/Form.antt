-- The readable form of a frame, and the frame of a readable line: one description of each kind of line, read in both directions.
use Rattle.std.specs.Prelude.{ℕ, [], ◌∷◌, ◌++◌, eqb, get_or}
use Rattle.std.proofs.Math.Option.{Option, none, some, map}
use Rattle.text.specs.Test.{whether◌then◌else◌, all}
use Rattle.text.specs.Byte.{is_print}
use Rattle.text.specs.String.{Str, bytes}
use Rattle.text.specs.Frame.{Reader, ◌>>=◌, ret}
use Rattle.table.specs.Frame.{unknown, whole}
use Rattle.readable_parts.specs.Parts.{Parts, part_of, shown, packed}

-- the parts that a form names, one after another
unfoldable pub parts : Parts → Str → Reader Str
parts p [] = ret []
parts p (c ∷ cs) = do
  w ← part_of p c
  v ← parts p cs
  ret (w ++ v)

-- the parts of each kind of frame, in order, after its kind byte
unfoldable pub form_by : Parts → ℕ → Reader Str
form_by p k =
    whether eqb k 1 then parts p (bytes "version S time T")
    else whether eqb k 2 then parts p (bytes "group S")
    else whether eqb k 3 then parts p (bytes "member S S")
    else whether eqb k 4 then parts p (bytes "rule A M K S id S origin S P")
    else unknown

-- the parts of a request in a log, which has no kind byte: "mode, S user, S origin, path"
abbrev pub request_form : Str
request_form = bytes "M S origin S P"

-- ---- shown, from a frame

-- only printable text, so in one line
unfoldable pub printed : Option Str → Option Str
printed none = none
printed (some w) = whether all is_print w then some w else none

-- the whole of f from `at` on, as r shows it
unfoldable pub shown_by : Reader Str → ℕ → Str → Option Str
shown_by r at f = printed (whole f (r f at))

-- the readable form of a frame of a table, without its LF
unfoldable pub shown_frame : Str → Option Str
shown_frame f = shown_by (form_by shown (get_or f 0 0)) 1 f

-- ---- packed, from a readable line

-- the kind of a line, by its first letter: v (118), g (103), m (109) or r (114)
unfoldable pub kind_by : ℕ → ℕ
kind_by b = whether eqb b 118 then 1 else whether eqb b 103 then 2 else whether eqb b 109 then 3 else whether eqb b 114 then 4 else 0

-- the whole of a printable line, given without its LF, as r packs it
unfoldable pub packed_by : Reader Str → Str → Option Str
packed_by r s = whether all is_print s then whole s (r s 0) else none

-- the frame of a readable line of a table: the kind byte, and the parts
unfoldable pub packed_frame : Str → Option Str
packed_frame s = map (λ (f : Str). kind_by (get_or s 0 0) ∷ f) (packed_by (form_by packed (kind_by (get_or s 0 0))) s)
