-- The answer of `show` and of `pack`.
use Rattle.std.specs.Prelude.{ℕ}

-- the start of the lent buffer is the result, which has this length; or the table is refused; or a line is not of the form; or there is no room
pub data Converted : Type 0 where
  Length : ℕ → Converted
  Refused : (number line : ℕ) → Converted
  Unread : (line : ℕ) → Converted
  NoRoom : Converted
