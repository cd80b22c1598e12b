-- Groups and members that are kept, in arrays: f are the bytes decoded so far, in which their strings stand.
use Rattle.std.specs.Prelude.{ℕ, ◌+◌, ◌*◌, ◌%◌, ◌≤◌, ◌<◌, ◌≡◌, List, [], ◌∷◌, ◌++◌, length, get_or, set}
use Rattle.std.proofs.Math.Option.{some}
use Rattle.limits.specs.Limits.{max_groups, max_members}
use Rattle.text.specs.Test.{any}
use Rattle.text.specs.String.{Str, same}
use Rattle.text.specs.Frame.{got, string, string_bytes}
use Rattle.text_sorted.specs.Spans.{strings_of, Sorted}
use Rattle.text_set.specs.Set.{Holds}
use Rattle.table_place.specs.Place.{str_in}
use Rattle.table_rows.specs.Strings.{rows_of, strings_in, Distinct, place, hash_of}
use Rattle.table.specs.Table.{Member}
use Rattle.table.specs.Layout.{kind_group, kind_member}
use Rattle.table.specs.Frame.{group, member, entry_of}
use Rattle.table.specs.Walk.{OfKind}

-- ---- sizes that are the program's own choice

-- where a name's hash says which group to try first
abbrev pub hint_places : ℕ
hint_places = 16 * max_groups

-- the set of members, an array (text_set/specs/Set): sorted keys, their count, and a place for each hash
abbrev pub member_places : ℕ
member_places = 8 * max_members

abbrev pub first_member_place : ℕ
first_member_place = max_members + 1

abbrev pub member_keys : ℕ
member_keys = first_member_place + member_places

-- ---- groups

-- `names` has the n groups' names in byte order, as spans of the bytes
pub record Named (f names : List ℕ) (n : ℕ) (groups : List Str) : Type 0 where
  pub sorted : Sorted f names n
  pub told : (y : Str) → any (same y) groups ≡ any (same y) (strings_of f names n)

-- what a lookup of a group's name needs: the first `count` groups, no two alike, and their names in byte order
pub record Groups (f groups names : List ℕ) (count : ℕ) : Type 0 where
  pub few : count ≤ max_groups
  pub distinct : Distinct f groups count
  pub named : Named f names count (strings_in f groups count 0)

-- ---- members: `owners` has the number of each one's group, `users` the position of its user's string

-- member number i
abbrev pub member_in : List Str → List ℕ → List ℕ → List ℕ → ℕ → Member
member_in groups owners f users i = record { group = get_or groups (get_or owners i 0) []; user = str_in f (get_or users i 0) }

-- the first n members
unfoldable pub members_in : List Str → List ℕ → List ℕ → List ℕ → ℕ → List Member
members_in groups owners f users n = rows_of (member_in groups owners f users) n 0

-- the first n owners are numbers of groups
abbrev pub Owned : List ℕ → ℕ → ℕ → Type 0
Owned owners n groups = (i : ℕ) → i < n → get_or owners i 0 < groups

-- "S group, S user": a member as the bytes that it has in a frame
unfoldable pub member_bytes : Member → Str
member_bytes m = string_bytes m.group ++ string_bytes m.user

unfoldable pub bytes_of : List Member → List Str
bytes_of [] = []
bytes_of (m ∷ ms) = member_bytes m ∷ bytes_of ms

-- a member's place in the set of members
unfoldable pub member_place : Str → ℕ
member_place s = first_member_place + hash_of s % member_places

-- the set has the first n members; `starts` are the positions of the groups
abbrev pub InSet : List ℕ → List ℕ → ℕ → List ℕ → List ℕ → List ℕ → ℕ → Type 0
InSet f starts count users owners keys n = Holds member_place f keys max_members (bytes_of (members_in (strings_in f starts count 0) owners f users n))

-- ---- what the functions need: `old` are the bytes before a row, f its frame, n the rows of its kind before it; of a
-- member, `starts` and `count` are of the groups

pub record GroupReady (old f starts names : List ℕ) (n : ℕ) : Type 0 where
  pub kind : OfKind kind_group f
  pub few : n ≤ max_groups
  pub named : Named old names n (strings_in old starts n 0)

pub record MemberReady (old f starts : List ℕ) (count : ℕ) (users owners keys : List ℕ) (n : ℕ) : Type 0 where
  pub kind : OfKind kind_member f
  pub long : length keys ≡ member_keys
  pub held : InSet old starts count users owners keys n

-- ---- what a row that is kept changes

-- a group
pub record GroupKept (old f starts : List ℕ) (n : ℕ) (starts' names' : List ℕ) : Type 0 where
  pub name : Str
  pub reads : entry_of f ≡ some (group name)
  pub stands : string f 1 ≡ got name (length f)
  pub room : n < max_groups
  pub starts_set : starts' ≡ set starts n (length old + 1)
  pub named : Named (old ++ f) names' (n + 1) (strings_in old starts n 0 ++ (name ∷ []))

-- a member: the user's string stands at `at` of its frame
pub record MemberKept (groups : List Str) (old f users owners : List ℕ) (n : ℕ) (users' owners' keys' : List ℕ) : Type 0 where
  pub group : Str
  pub user : Str
  pub at : ℕ
  pub reads : entry_of f ≡ some (member (record { group = group; user = user }))
  pub stands : string f at ≡ got user (length f)
  pub room : n < max_members
  pub listed : place group groups < length groups
  pub users_set : users' ≡ set users n (length old + at)
  pub owners_set : owners' ≡ set owners n (place group groups)
  pub keys_long : length keys' ≡ member_keys
  pub held : Holds member_place (old ++ f) keys' max_members
      (bytes_of (members_in groups owners old users n) ++ (member_bytes (record { group = group; user = user }) ∷ []))
