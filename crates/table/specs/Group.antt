-- "One call answers how many groups a user belongs to; each user's memberships are a set over at most 64 groups."
use Rattle.std.specs.Prelude.{ℕ, suc, Bool, List, [], ◌∷◌, length}
use Rattle.text.specs.Test.{◌or◌, whether◌then◌else◌, any}
use Rattle.text.specs.String.{Str}
use Rattle.path.specs.Refusal.{unsized}
use Rattle.table.specs.Table.{Member, Table}
use Rattle.table.specs.Refusal.{stray, same_member}
use Rattle.table.specs.Text.{check, table_of}
use Rattle.table.specs.Checked.{Checked}
use Rattle.table.specs.Checked.{Accepted, Refused}
use Rattle.table.specs.Counted.{Counted, Count, NoGroup, Declined}

-- a member line has that group and that user
unfoldable pub lists : List Member → Str → Str → Bool
lists members user group = any (same_member (record { group = group; user = user })) members

-- i before the numbers, if the test holds
unfoldable pub numbered : Bool → ℕ → List ℕ → List ℕ
numbered b i ns = whether b then i ∷ ns else ns

-- the numbers of the groups that list the user, rising; the first of `groups` has the number i
unfoldable pub memberships : List Member → Str → ℕ → List Str → List ℕ
memberships members user i [] = []
memberships members user i (g ∷ gs) = numbered (lists members user g) i (memberships members user (suc i) gs)

-- the numbers of the user's groups
unfoldable pub groups_of : Table → Str → List ℕ
groups_of t user = memberships t.members user 0 t.groups

-- ---- the answer

-- the first group is that with the smallest number
unfoldable pub counted : List ℕ → Counted
counted [] = NoGroup
counted (g ∷ gs) = Count (length (g ∷ gs)) (record { 0 = g })

-- 20: "user .. not as a table allows"
unfoldable pub bad_user : Str → Bool
bad_user user = unsized user or stray user

-- "text before request"
unfoldable pub count_for : Checked → Table → Str → Counted
count_for (Refused n l) t user = Declined n l
count_for Accepted t user = whether bad_user user then Declined 20 0 else counted (groups_of t user)

-- how many groups the user belongs to, by the table's text
unfoldable pub group_count : Str → Str → Counted
group_count text user = count_for (check text) (table_of text) user
