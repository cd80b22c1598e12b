-- Members by their arrays: number i has that owner and that name.
use mathlib.Core.Path.{◌≡◌, refl, sym, ap, ap₂}
use mathlib.Core.Bool.{Bool, false}
use mathlib.Core.List.{List}
use Prim.Native.Nat.{ℕ, zero, suc, ◌+◌, ◌≤◌, ◌<◌}
use native.Mathlib.Omega.{arith}
use lib.Dec.{eqb}
use lib.ListN.{length, get_or}
use Rattle.text.specs.Test.{◌and◌, ◌or◌, any, twice}
use Rattle.text.specs.String.{Str, same}
use Rattle.table_place.specs.Place.{str_in}
use Rattle.table_rows.specs.Strings.{rows_of, place}
use Rattle.table_rows.proofs.Grow.{place_test}
use Rattle.table.specs.Refusal.{same_member}
use Rattle.table_keep.specs.Held.{member_in, Owned}

unfoldable pub is_pair : ℕ → Str → List ℕ → List ℕ → List ℕ → ℕ → Bool
is_pair owner name f starts owners i = eqb (get_or owners i 0) owner and same name (str_in f (get_or starts i 0))

-- one of n from number i on is such
unfoldable pub has_pair : ℕ → Str → List ℕ → List ℕ → List ℕ → ℕ → ℕ → Bool
has_pair owner name f starts owners zero i = false
has_pair owner name f starts owners (suc n) i = is_pair owner name f starts owners i or has_pair owner name f starts owners n (suc i)

-- pairs are members
module _ (groups : List Str) (name u : Str) (f users owners : List ℕ) (d : twice same groups ≡ false) where
  pair_is : (j : ℕ) → get_or owners j 0 < length groups
      → is_pair (place name groups) u f users owners j ≡ same_member (record { group = name; user = u }) (member_in groups owners f users j)
  unfolding is_pair same_member
  pair_is j h = ap (λ (t : Bool). t and same u (str_in f (get_or users j 0))) (sym (place_test name groups (get_or owners j 0) d h))

  pub pairs_any : (k i n : ℕ) → i + k ≤ n → Owned owners n (length groups)
      → has_pair (place name groups) u f users owners k i ≡ any (same_member (record { group = name; user = u })) (rows_of (member_in groups owners f users) k i)
  unfolding has_pair any rows_of
  pairs_any zero i n l h = refl
  pairs_any (suc k) i n l h = ap₂ ◌or◌ (pair_is i (h i (omega arith))) (pairs_any k (suc i) n (omega arith) h)
