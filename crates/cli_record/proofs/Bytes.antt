-- What is read of a record's bytes is the record.
use native.Mathlib.Omega.{arith}
use native.Mathlib.Nat.{div-div-eq-div-mul, div-one, mod-eq_of_lt}
use Prim.Native.Nat.{ℕ, ◌/◌}
use mathlib.Core.Path.{◌≡◌}
use Rattle.cli_record.specs.Bytes.{byte_of, four_bytes, record_bytes, of_four_bytes, number_at, record_in, Of32Bits, ReadsBack}

-- each unit is the one below it, 256 times, and of the highest no more than 255 are left
number_back : (n : ℕ) → Of32Bits n → of_four_bytes (byte_of n 1) (byte_of n 256) (byte_of n 65536) (byte_of n 16777216) ≡ n
unfolding of_four_bytes byte_of
number_back n fits = let highest = mod-eq_of_lt {n = n / 256 / 256 / 256} {m = 256} (omega (arith, fits)) in
    rw (div-one n, ← div-div-eq-div-mul n 65536 256, ← div-div-eq-div-mul n 256 256) (omega (arith, highest))

pub reads_back : ReadsBack
unfolding record_in record_bytes four_bytes number_at
reads_back r fit =
    rw (
      number_back _ fit.kind_fits,
      number_back _ fit.slot_fits,
      number_back _ fit.live_fits,
      number_back _ fit.rotating_fits,
      number_back _ fit.candidate_fits,
    )
