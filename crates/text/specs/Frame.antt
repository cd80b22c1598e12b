-- Readers: from a position of the bytes on, a value and where it ends, which is where reading goes on; or the bytes do not read so.
use Rattle.std.specs.Prelude.{ℕ, zero, suc, ◌+◌, ◌-◌, List, [], ◌∷◌, length, nat_le, nat_lt, slice_index, slice_range}
use Rattle.text.specs.Test.{whether◌then◌else◌}
use Rattle.text.specs.String.{Str}

-- a value, and where it ends
pub data Parsed (A : Type 0) : Type 0 where
  got : A → ℕ → Parsed A
  unread : Parsed A

-- of the bytes, and a position in them
abbrev pub Reader : Type 0 → Type 0
Reader A = List ℕ → ℕ → Parsed A

-- what was read, and its end, handed on to k
abbrev pub and_then : {A B : Type 0} → Parsed A → (A → ℕ → Parsed B) → Parsed B
and_then (got a p) k = k a p
and_then unread k = unread

infixl 10 ◌>>=◌
-- one reading after another; `x ← r` in a `do`
unfoldable pub ◌>>=◌ : {A B : Type 0} → Reader A → (A → Reader B) → Reader B
◌>>=◌ r k f at = and_then (r f at) (λ a p. k a f p)

-- a value, with nothing read
unfoldable pub ret : {A : Type 0} → A → Reader A
ret a f at = got a at

-- the next byte
unfoldable pub byte : Reader ℕ
byte f at = whether nat_lt at (length f) then got (slice_index f at) (at + 1) else unread

-- the bytes of f from `from` up to, not including, `to`
abbrev pub part : List ℕ → ℕ → ℕ → List ℕ
part f from to = slice_range f from to

-- the next n bytes
unfoldable pub run : ℕ → Reader Str
run n f at = whether nat_le n (length f - at) then got (part f at (at + n)) (at + n) else unread

-- "S is one length byte, then that many bytes"
unfoldable pub string : Reader Str
string = do
  n ← byte
  run n

-- and the bytes of such a string
unfoldable pub string_bytes : Str → Str
string_bytes s = length s ∷ s

-- n readings, one after another
unfoldable pub times : {A : Type 0} → ℕ → Reader A → Reader (List A)
times zero r = ret []
times (suc n) r = do
  x ← r
  xs ← times n r
  ret (x ∷ xs)
