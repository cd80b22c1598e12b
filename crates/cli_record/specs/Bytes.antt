-- A record in its file: its five numbers, each of them four bytes, the low byte first.
use Rattle.std.specs.Prelude.{ℕ, ◌+◌, ◌*◌, ◌/◌, ◌%◌, ◌<◌, ◌≡◌, [], ◌∷◌, ◌++◌, get_or}
use Rattle.text.specs.String.{Str}
use Rattle.rotation.specs.declared.Record.{Record}

-- the byte of a number that counts such units
unfoldable pub byte_of : ℕ → ℕ → ℕ
byte_of n unit = n / unit % 256

unfoldable pub four_bytes : ℕ → Str
four_bytes n = byte_of n 1 ∷ byte_of n 256 ∷ byte_of n 65536 ∷ byte_of n 16777216 ∷ []

unfoldable pub record_bytes : Record → Str
record_bytes r = four_bytes r.kind ++ four_bytes r.live_slot ++ four_bytes r.live_len ++ four_bytes r.rotating ++ four_bytes r.candidate_len

-- the number that four bytes tell
unfoldable pub of_four_bytes : ℕ → ℕ → ℕ → ℕ → ℕ
of_four_bytes a b c d = a + b * 256 + c * 65536 + d * 16777216

-- the number whose four bytes stand from a position on
unfoldable pub number_at : Str → ℕ → ℕ
number_at b at = of_four_bytes (get_or b at 0) (get_or b (at + 1) 0) (get_or b (at + 2) 0) (get_or b (at + 3) 0)

unfoldable pub record_in : Str → Record
record_in b =
    record {
      kind = number_at b 0;
      live_slot = number_at b 4;
      live_len = number_at b 8;
      rotating = number_at b 12;
      candidate_len = number_at b 16;
    }

-- what four bytes can tell, and a number of a program's record is
abbrev pub Of32Bits : ℕ → Type 0
Of32Bits n = n < 4294967296

pub record NumbersOf32Bits (r : Record) : Type 0 where
  pub kind_fits : Of32Bits r.kind
  pub slot_fits : Of32Bits r.live_slot
  pub live_fits : Of32Bits r.live_len
  pub rotating_fits : Of32Bits r.rotating
  pub candidate_fits : Of32Bits r.candidate_len

-- what is read of a record's bytes is the record
abbrev pub ReadsBack : Type 0
ReadsBack = (r : Record) → NumbersOf32Bits r → record_in (record_bytes r) ≡ r
