-- A value stored after others in an array of anything.
use Rattle.std.proofs.Common.{◌≡◌, ℕ, ◌+◌, ◌<◌, List, length, get_or, set, arith, get_or-set_other, get_or-set_same}
use native.Mathlib.Decide.{dec_lt}

pub stored_in : {A : Type 0} (d : A) (Q : ℕ → A → Type 0) (xs : List A) (i : ℕ) (v : A) → i < length xs
    → ((j : ℕ) → j < i → Q j (get_or xs j d)) → Q i v → (j : ℕ) → j < i + 1 → Q j (get_or (set xs i v) j d)
stored_in d Q xs i v l h q j k = go (dec_lt j i)
  where
    go : Dec (j < i) → Q j (get_or (set xs i v) j d)
    go (yes m) = rw (get_or-set_other xs i j v d (omega arith)) (h j m)
    go (no m) = let z : j ≡ i = omega arith in rw (z, get_or-set_same xs i v d l) q
