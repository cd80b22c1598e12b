-- A value stored after others in an array.
use Rattle.std.proofs.Common.{◌≡◌, ℕ, ◌+◌, ◌<◌, List, length, get_or, set, arith, get_or-set_other, get_or-set_same}
use native.Mathlib.Decide.{dec_lt}

-- `at` reads the values of an array: what holds of the first i, and of a value stored at i where those stay, holds of the first i + 1
pub stored_by_lem : {A : Type 0} (at : List ℕ → ℕ → A) (Q : ℕ → A → Type 0) (xs ys : List ℕ) (i : ℕ) (v : A) → at ys i ≡ v
    → ((j : ℕ) → j < i → at ys j ≡ at xs j) → ((j : ℕ) → j < i → Q j (at xs j)) → Q i v → (j : ℕ) → j < i + 1 → Q j (at ys j)
stored_by_lem at Q xs ys i v e o h q j k = go (dec_lt j i)
  where
    go : Dec (j < i) → Q j (at ys j)
    go (yes m) = rw (o j m) (h j m)
    go (no m) = let z : j ≡ i = omega arith in rw (z, e) q

-- the same of single numbers
pub stored : (Q : ℕ → ℕ → Type 0) (xs : List ℕ) (i v : ℕ) → i < length xs → ((j : ℕ) → j < i → Q j (get_or xs j 0)) → Q i v
    → (j : ℕ) → j < i + 1 → Q j (get_or (set xs i v) j 0)
stored Q xs i v l h q =
    stored_by_lem (λ (ys : List ℕ) (j : ℕ). get_or ys j 0) Q xs (set xs i v) i v (get_or-set_same xs i v 0 l) (λ j m. get_or-set_other xs i j v 0 (omega arith)) h q
