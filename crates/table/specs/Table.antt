-- A rule table as a mathematical value.
use Rattle.std.specs.Prelude.{ℕ, Bool, List}
use Rattle.text.specs.String.{Str}
use Rattle.path.specs.Path.{Path}

-- "S group, S user"
pub record Member : Type 0 where
  pub group : Str
  pub user : Str

-- "action (0 deny, 1 permit), mode (1 read, 2 write), subject (0 user, 1 group), S subject name, S id, S origin, path"
pub record Rule : Type 0 where
  pub permit : Bool
  pub mode : ℕ
  pub by_group : Bool
  pub subject : Str
  pub id : Str
  pub origin : Str
  pub path : Path

-- the groups, members and rules in text order; the 01 line with version and creation time is judged, and nothing else is asked of it
pub record Table : Type 0 where
  pub groups : List Str
  pub members : List Member
  pub rules : List Rule
