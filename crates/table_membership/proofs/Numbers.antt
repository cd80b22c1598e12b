-- The numbers in a set, one after another.
use mathlib.Core.Path.{◌≡◌, refl, ap}
use mathlib.Core.List.{List, [], ◌∷◌, ◌++◌}
use Prim.Native.Nat.{ℕ, zero, suc, ◌+◌, ◌<◌}
use native.Mathlib.Omega.{arith}
use lib.ListN.{length, get_or}
use Rattle.text.specs.Test.{whether◌then◌else◌}
use Rattle.text.specs.String.{Str}
use Rattle.text.proofs.Tests.{by}
use Rattle.table.specs.Table.{Member, Table}
use Rattle.table.specs.Group.{lists, numbered, memberships, groups_of}
use Rattle.table_membership.specs.Set.{has_of, numbers_in, UserGroups}

pub numbers_more : (set n i : ℕ) → numbers_in set (suc n) i ≡ numbers_in set n i ++ numbered (has_of set (i + n)) (i + n) []
unfolding numbers_in numbered whether◌then◌else◌
numbers_more set zero i = let e : i + 0 ≡ i = omega arith in rw e
numbers_more set (suc n) i =
    let e : suc i + n ≡ i + suc n = omega arith in
    let r : numbers_in set (suc n) (suc i) ≡ numbers_in set n (suc i) ++ numbered (has_of set (i + suc n)) (i + suc n) [] = rw e at (numbers_more set n (suc i)) in
    by (has_of set i) (λ t. rw t (ap (λ (ns : List ℕ). i ∷ ns) r)) (λ t. rw t r)

module _ (members : List Member) (user : Str) (set : ℕ) where
  numbers_from : (i : ℕ) (xs : List Str) → ((g : ℕ) → g < length xs → has_of set (i + g) ≡ lists members user (get_or xs g []))
      → numbers_in set (length xs) i ≡ memberships members user i xs
  unfolding numbers_in memberships
  numbers_from i [] h = refl
  numbers_from i (s ∷ xs) h =
      let z : i + 0 ≡ i = omega arith in
      let a : has_of set i ≡ lists members user s = rw z at (h 0 (omega arith)) in
      let r = numbers_from (suc i) xs (λ g l. let e : i + suc g ≡ suc i + g = omega arith in rw e at (h (suc g) (omega arith))) in
      rw (a, r)

-- the set of a user's groups has their numbers
pub numbers_are : (t : Table) (user : Str) (set : ℕ) → UserGroups t user set → numbers_in set (length t.groups) 0 ≡ groups_of t user
unfolding groups_of
numbers_are t user set h =
    numbers_from t.members user set 0 t.groups (λ g l. let z : 0 + g ≡ g = omega arith in rw z (h g l))
