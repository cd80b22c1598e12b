-- What is told of a text that `show` or `pack` makes nothing of.
use Rattle.std.specs.Prelude.{[], ◌++◌}
use Rattle.text.specs.String.{Str, bytes}
use Rattle.readable.specs.Converted.{Converted}
use Rattle.readable.specs.Converted as converted
use Rattle.cli_refusal.specs.Refusal.{place, refusal}

-- the refusal; a text that was converted has none
unfoldable pub refusal_line : Converted → Str
refusal_line (converted.Length n) = []
refusal_line (converted.Refused number line) = refusal number line
refusal_line (converted.Unread line) = bytes "refused" ++ place line ++ bytes ": not a line of the readable form\n"
refusal_line converted.NoRoom = bytes "refused: too long for a table\n"
