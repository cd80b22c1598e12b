-- The answer of the calls that fill a lent buffer.
use Rattle.std.specs.Prelude.{ℕ}

-- the start of the lent buffer is the result, which has this length; or the call is refused by this number
pub data Filled : Type 0 where
  Length : ℕ → Filled
  Refused : ℕ → Filled
