-- For programs: the members of a table by place, a chain of members for each place of a hash. Only that equal strings share a place is used of it.
use Rattle.std.specs.Prelude.{◌≡◌, List, ℕ, zero, suc, ◌-◌, ◌≤◌, ◌<◌, eqb, length, get_or}
use Rattle.limits.specs.Limits.{max_members}
use Rattle.text.specs.Test.{whether◌then◌else◌}
use Rattle.text_hash.specs.Mix.{Small, place_of}
use Rattle.text_hash.specs.declared.Seed.{Seed}
use Rattle.table_place.specs.Place.{str_in}
use Rattle.table_rows.specs.Strings.{Listed}

-- how many places; any number would do
abbrev pub places : ℕ
places = max_members

-- the place of member number i: `users` has the position of its user in the bytes f
abbrev pub place_in : Seed → List ℕ → List ℕ → ℕ → ℕ
place_in seed f users i = place_of seed places (str_in f (get_or users i 0))

-- the first with place b of k members, from number i on, counted from 1; 0 where none has it
unfoldable pub first_in : Seed → List ℕ → List ℕ → ℕ → ℕ → ℕ → ℕ
first_in seed f users b zero i = 0
first_in seed f users b (suc k) i = whether eqb (place_in seed f users i) b then suc i else first_in seed f users b k (suc i)

-- no place has a member yet
abbrev pub Unlinked : List ℕ → Type 0
Unlinked heads = (b : ℕ) → b < places → get_or heads b 0 ≡ 0

-- what the linking of n members needs
pub record Linkable (seed : Seed) (f users : List ℕ) (n : ℕ) (heads links : List ℕ) : Type 0 where
  pub listed : Listed f users n
  pub few : n ≤ max_members
  pub small : Small seed
  pub size : length heads ≡ places
  pub room : n ≤ length links
  pub empty : Unlinked heads

-- those of n members from number i on are linked: `heads` has the first of each place, `links` for each of them the next of its place
pub record LinkedFrom (seed : Seed) (f users : List ℕ) (n i : ℕ) (heads links : List ℕ) : Type 0 where
  pub size : length heads ≡ places
  pub room : n ≤ length links
  pub first : (b : ℕ) → b < places → get_or heads b 0 ≡ first_in seed f users b (n - i) i
  pub next : (j : ℕ) → i ≤ j → j < n → get_or links j 0 ≡ first_in seed f users (place_in seed f users j) (n - suc j) (suc j)

-- all n are
abbrev pub Linked : Seed → List ℕ → List ℕ → ℕ → List ℕ → List ℕ → Type 0
Linked seed f users n heads links = LinkedFrom seed f users n 0 heads links
