-- Whom a table names as a user, and the line that is said of a user whom it does not name: a typing slip looks like a user without rights.
use Rattle.std.specs.Prelude.{ℕ, ◌+◌, ◌*◌, Bool, true, false, cond, List, [], ◌∷◌, ◌++◌, map}
use Rattle.limits.specs.Limits.{max_members, max_rules, max_string}
use Rattle.text.specs.Test.{whether◌then◌else◌, any, only}
use Rattle.text.specs.Byte.{within}
use Rattle.text.specs.String.{Str, bytes, same}
use Rattle.table.specs.Table.{Table, Member, Rule}
use Rattle.table.specs.Group.{bad_user}
use Rattle.table.specs.Checked.{Checked}
use Rattle.table.specs.Checked.{Accepted, Refused}

-- ---- the users of a table

-- those whom rules name: "subject (0 user, 1 group)"
unfoldable pub subjects : List Rule → List Str
subjects [] = []
subjects (r ∷ rs) = whether r.by_group then subjects rs else r.subject ∷ subjects rs

-- the users whom member lines name, then those whom rules name, in text order
unfoldable pub users_of : Table → List Str
users_of t = map (λ (m : Member). m.user) t.members ++ subjects t.rules

-- ---- names that differ only in case

-- a capital letter as the small one, any other byte as it is
abbrev pub small : ℕ → ℕ
small b = cond (within 65 90 b) (b + 32) b

-- the same but for the case of letters
unfoldable pub alike : Str → Str → Bool
alike a b = same (map small a) (map small b)

-- the names, and after them each of a list that is not there yet
unfoldable pub gather : List Str → List Str → List Str
gather names [] = names
gather names (s ∷ ss) = gather (whether any (same s) names then names else names ++ (s ∷ [])) ss

-- ---- the line

-- a name after words, if it is the first, else after a comma
unfoldable pub lead_of : Bool → Str
lead_of is_first = whether is_first then bytes "; it names " else bytes ", "

unfoldable pub led : Bool → Str → Str
led is_first s = lead_of is_first ++ s

unfoldable pub listed : Bool → List Str → Str
listed is_first [] = []
listed is_first (s ∷ ss) = led is_first s ++ listed false ss

-- that a group has the name
unfoldable pub grouping : Bool → Str
grouping is_group = whether is_group then bytes "; a group has that name" else []

unfoldable pub sentence : Bool → Str → List Str → Str
sentence is_group user names =
    bytes "burgee: the table names no user " ++ user ++ grouping is_group ++ listed true names ++ bytes "\n"

-- of a user, where `users` are those whom the table names: nothing where it is one of them; else the sentence with those that are the same but for the
-- case of letters, so that none of them is the user, each once, in their order
unfoldable pub told : Bool → Str → List Str → Str
told is_group user users = whether any (same user) users then [] else sentence is_group user (gather [] (only (alike user) users))

-- nothing too where the table or the user is refused
unfoldable pub slip : Checked → Table → Str → Str
slip (Refused n l) t user = []
slip Accepted t user = whether bad_user user then [] else told (any (same user) t.groups) user (users_of t)

-- ---- its length

-- as many users as a table can name
abbrev pub max_users : ℕ
max_users = max_members + max_rules

-- its words have 67 bytes; each name of the table stands after two more at most, but for the first
abbrev pub max_line : ℕ
max_line = 67 + max_string + max_users * (2 + max_string)
