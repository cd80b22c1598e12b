-- A set of group numbers is a number: its binary digit at g is 1 for each group g in the set.
use Rattle.std.specs.Prelude.{ℕ, zero, suc, ◌/◌, ◌%◌, ◌^◌, ◌≤◌, ◌<◌, ◌≡◌, Bool, List, [], eqb, length, get_or}
use Rattle.std.specs.Int.Bits.{bit_or}
use Rattle.std.specs.Int.Count.{ones, count_trailing_zeros}
use Rattle.limits.specs.Limits.{max_groups}
use Rattle.text.specs.Test.{whether◌then◌else◌}
use Rattle.text.specs.String.{Str, same}
use Rattle.table_place.specs.Place.{str_in}
use Rattle.table_rows.specs.Strings.{Listed}
use Rattle.table_keep.specs.Held.{Owned}
use Rattle.table.specs.Table.{Table}
use Rattle.table.specs.Group.{lists, numbered, bad_user}
use Rattle.table.specs.Counted.{Counted, Count, NoGroup, Declined}
use Rattle.table.specs.declared.GroupNumber.{GroupNumber}
use Rattle.table.specs.declared.RuleNumber.{RuleNumber}

-- the set with group g
abbrev pub insert_of : ℕ → ℕ → ℕ
insert_of set g = bit_or set (2 ^ g)

-- group g is in the set
abbrev pub has_of : ℕ → ℕ → Bool
has_of set g = eqb (set / 2 ^ g % 2) 1

-- the numbers in the set among n from i on, rising
unfoldable pub numbers_in : ℕ → ℕ → ℕ → List ℕ
numbers_in set zero i = []
numbers_in set (suc n) i = numbered (has_of set i) i (numbers_in set n (suc i))

-- the set has the numbers of the groups that list the user
abbrev pub UserGroups : Table → Str → ℕ → Type 0
UserGroups t user set = (g : ℕ) → g < length t.groups → has_of set g ≡ lists t.members user (get_or t.groups g [])

-- what a search among n members needs: `users` has the position of each one's user in the bytes f, `owners` the number of its group
pub record Members (f users owners : List ℕ) (n : ℕ) : Type 0 where
  pub listed : Listed f users n
  pub room : n ≤ length owners
  pub owned : Owned owners n max_groups

-- the set, and the groups of those of n members, from number i on, that are the user
unfoldable pub set_in : Str → List ℕ → List ℕ → List ℕ → ℕ → ℕ → ℕ → ℕ
set_in user f users owners zero i set = set
set_in user f users owners (suc n) i set =
    set_in user f users owners n (suc i) (whether same user (str_in f (get_or users i 0)) then insert_of set (get_or owners i 0) else set)

-- the group of a rule whose subject is a group; only a rule's number picks it
abbrev pub group_of : List ℕ → RuleNumber → GroupNumber
group_of holders rule = record { 0 = get_or holders rule.0 0 }

-- the answer of a group count: "the group count is its ones, the first group its trailing zeros"
unfoldable pub count_in : Str → ℕ → Counted
count_in user set =
    whether bad_user user then Declined 20 0
    else whether eqb (ones set) 0 then NoGroup
    else Count (ones set) (record { 0 = count_trailing_zeros max_groups set })
