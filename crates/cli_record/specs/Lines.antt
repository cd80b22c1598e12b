-- What is printed of a record, one fact a line.
use Rattle.std.specs.Prelude.{ℕ, ◌++◌, eqb}
use Rattle.text.specs.Test.{whether◌then◌else◌}
use Rattle.text.specs.String.{Str, bytes}
use Rattle.rotation.specs.State.{no_length}
use Rattle.rotation.specs.declared.Record.{Record}
use Rattle.text_make.specs.Text.{fact}

unfoldable pub kind_line : ℕ → Str
kind_line k = whether eqb k 1 then bytes "kind policy\n" else bytes "kind table\n"

-- how long a text is, if there is one
unfoldable pub length_line : Str → ℕ → Str
length_line name n = whether eqb n no_length then name ++ bytes "none\n" else fact name n

unfoldable pub rotation_line : ℕ → Str
rotation_line n = whether eqb n 0 then bytes "rotation off\n" else bytes "rotation on\n"

unfoldable pub record_lines : Record → Str
record_lines r =
    kind_line r.kind
    ++ fact (bytes "slot ") r.live_slot
    ++ length_line (bytes "live ") r.live_len
    ++ rotation_line r.rotating
    ++ length_line (bytes "candidate ") r.candidate_len
