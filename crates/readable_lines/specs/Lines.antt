-- A line of a table or of a log, and its readable line.
use Rattle.std.specs.Prelude.{◌-◌, [], ◌∷◌, ◌++◌, eqb, length, take, get_or}
use Rattle.std.proofs.Math.Option.{Option, none, some, bind, map}
use Rattle.text.specs.Test.{whether◌then◌else◌}
use Rattle.text.specs.String.{Str}
use Rattle.table_line.specs.Lines.{frame}
use Rattle.readable_parts.specs.Parts.{hex_text}
use Rattle.readable_parts.specs.declared.Direction.{Direction}
use Rattle.readable_parts.specs.declared.Direction.TheVariants.{Show, Pack}
use Rattle.readable_lines.specs.declared.Source.{Source}
use Rattle.readable_lines.specs.declared.Source.TheVariants.{Table, Log}
use Rattle.readable_lines.specs.Form.{shown_frame, packed_frame}
use Rattle.readable_lines.specs.Request.{shown_request, packed_request}

-- with its LF
unfoldable pub lined : Option Str → Option Str
lined none = none
lined (some w) = some (w ++ (10 ∷ []))

-- without its LF
unfoldable pub unlined : Str → Option Str
unlined l = whether eqb (get_or l (length l - 1) 0) 10 then some (take (length l - 1) l) else none

-- a hex line to its readable line, by what is shown of its frame
unfoldable pub shown_line_by : (Str → Option Str) → (Str → Option Str)
shown_line_by show l = lined (bind (frame l) show)

-- a readable line to its hex line, by the frame that is packed of it
unfoldable pub packed_line_by : (Str → Option Str) → (Str → Option Str)
packed_line_by pack l = lined (map hex_text (bind (unlined l) pack))

-- ---- lines of a table

unfoldable pub shown_line : Str → Option Str
shown_line = shown_line_by shown_frame

unfoldable pub packed_line : Str → Option Str
packed_line = packed_line_by packed_frame

-- ---- lines of a log: a line that is bad is not shown, and none is packed

unfoldable pub shown_log_line : Str → Option Str
shown_log_line = shown_line_by shown_request

unfoldable pub packed_log_line : Str → Option Str
packed_log_line = packed_line_by packed_request

-- ---- any of the four, for programs

-- of a table, or of a log
unfoldable pub shown_for : Source → (Str → Option Str)
shown_for Table = shown_frame
shown_for Log = shown_request

unfoldable pub packed_for : Source → (Str → Option Str)
packed_for Table = packed_frame
packed_for Log = packed_request

unfoldable pub line_by : Source → Direction → (Str → Option Str)
line_by source Show = shown_line_by (shown_for source)
line_by source Pack = packed_line_by (packed_for source)
