-- How the lines of a text ended, converted and stored one after another.
use Rattle.std.specs.Prelude.{ℕ}

-- all were stored, in so many bytes; or a line is not of the form; or there is no room for a line
pub data Ended : Type 0 where
  All : ℕ → Ended
  Unread : (line : ℕ) → Ended
  Full : Ended
