-- The table in which programs look hex digits up.
use Rattle.std.specs.Prelude.{◌≡◌, ℕ, ◌<◌, List, slice_index}
use Rattle.text.specs.Byte.{hex_value}

-- the value of each byte, at its place
pub record HexTable (t : List ℕ) : Type 0 where
  pub value : (b : ℕ) → b < 256 → slice_index t b ≡ hex_value b
