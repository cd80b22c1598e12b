-- The answers of the programs that convert line by line, said of what is read there.
use Rattle.std.specs.Prelude.{ℕ, ◌+◌, ◌*◌, ◌≤◌, ◌<◌, ◌≡◌, List, [], ◌∷◌, eqb, length, take, drop, Some, None}
use Rattle.std.proofs.Math.Option.{Option, none, some}
use Rattle.limits.specs.Sizes.{max_readable_line}
use Rattle.text.specs.Test.{◌and◌, whether◌then◌else◌, all}
use Rattle.text.specs.Byte.{is_print}
use Rattle.text.specs.String.{Str}
use Rattle.text.specs.Steps.{Wrote}
use Rattle.table_line.specs.Lines.{lines}
use Rattle.path_read.specs.Steps.{MaybeStored, reached}
use Rattle.std.specs.Prelude as program
use Rattle.readable_parts.specs.Parts.{Parts, shown, packed}
use Rattle.readable_parts.specs.Steps.{longest}
use Rattle.readable_parts.specs.declared.Direction.{Direction}
use Rattle.readable_parts.specs.declared.Direction.TheVariants.{Show, Pack}

-- a frame that is made of a readable line: its kind byte, and its parts
abbrev pub max_made_frame : ℕ
max_made_frame = 1 + max_readable_line

-- and its line of the table: two digits a byte, and the LF
abbrev pub max_made_line : ℕ
max_made_line = 2 * max_made_frame + 1

-- the readers for either direction
unfoldable pub parts_by : Direction → Parts
parts_by Show = shown
parts_by Pack = packed

-- the longest that such parts can be
unfoldable pub room_for : Str → ℕ
room_for [] = 0
room_for (c ∷ cs) = longest c + room_for cs

-- what there is, a frame or a line of either form, fills the start of d, and nothing else does; where there is nothing, nothing is said of d
pub data Fills : Option Str → List ℕ → List ℕ → program.Option ℕ → Type 0 where
  fills : {w : Str} {d d' : List ℕ} {end : ℕ} → Wrote d 0 w d' end → end ≤ max_made_frame → Fills (some w) d d' (Some end)
  nothing : {d d' : List ℕ} → Fills none d d' None

-- where what was stored ends
unfoldable pub stored_end : MaybeStored → ℕ
stored_end (Some r) = r.end
stored_end None = 0

-- where a reading ended that took all of `size` bytes and stored printable text at the start of `out`
unfoldable pub closed : ℕ → List ℕ → MaybeStored → program.Option ℕ
closed size out (Some r) = whether eqb r.next size and all is_print (take r.end out) then Some r.end else None
closed size out None = None

-- the number of a kind, 0 for none
abbrev pub kind_said : program.Option ℕ → ℕ
kind_said (Some k) = k
kind_said None = 0

-- the line of the text that starts at `from` was converted by g to the start of d, and the next one starts at `next`; or g does not convert it
pub data Lays (g : Str → Option Str) (text : Str) (from : ℕ) : List ℕ → List ℕ → MaybeStored → Type 0 where
  lays : {l w : Str} {d d' : List ℕ} {next end : ℕ} → lines (drop from text) ≡ l ∷ lines (drop next text) → g l ≡ some w → Wrote d 0 w d' end
      → end ≤ length d → from < next → next ≤ length text → Lays g text from d d' (reached next end)
  fails : {l : Str} {ls : List Str} {d d' : List ℕ} → lines (drop from text) ≡ l ∷ ls → g l ≡ none → Lays g text from d d' None
