-- What the programs answer that look for a line and show it.
use Rattle.std.specs.Prelude.{ℕ, ◌*◌, ◌≤◌, ◌≡◌, length, drop}
use Rattle.text.specs.String.{Str}
use Rattle.cli_console.specs.Quoted.{from_line}

-- as many bytes of a line as are made at once, and room for them
abbrev pub max_part : ℕ
max_part = 1024

abbrev pub part_room : ℕ
part_room = 4 * max_part

-- line n begins at `at`
pub record LineAt (text : Str) (n at : ℕ) : Type 0 where
  pub within : at ≤ length text
  pub there : drop at text ≡ from_line n text
