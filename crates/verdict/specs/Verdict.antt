-- The single-path verdict and the tree verdict, over a rule table and a request as mathematical values.
use Rattle.std.specs.Prelude.{ℕ, Bool, true, false, eqb}
use Rattle.std.specs.Bool.{xor}
use Rattle.std.proofs.Math.Option.{Option, none, some}
use Rattle.text.specs.Test.{◌and◌, whether◌then◌else◌}
use Rattle.text.specs.String.{Str, same}
use Rattle.path.specs.Path.{Path}
use Rattle.table.specs.Table.{Rule, Table}
use Rattle.table.specs.Group.{lists}
use Rattle.verdict.specs.Cover.{covers}
use Rattle.verdict.specs.Join.{agree, join}
use Rattle.verdict.specs.Order.{better, earlier, Numbered, choose}

-- "A request has a user, a mode, an origin and path text." Here the path that the text spells.
pub record Request : Type 0 where
  pub user : Str
  pub mode : ℕ
  pub origin : Str
  pub path : Path

-- the same request for another path
abbrev pub at : Request → Path → Request
at q d = record { user = q.user; mode = q.mode; origin = q.origin; path = d }

-- ---- the single-path verdict

-- "its subject is the user or a group holding the user"
unfoldable pub concerns : Table → Rule → Str → Bool
concerns t r u = whether r.by_group then lists t.members u r.subject else same r.subject u

-- "mode and origin are equal", and the subject matches
unfoldable pub applies : Table → Request → Rule → Bool
applies t q r = eqb r.mode q.mode and same r.origin q.origin and concerns t r q.user

-- "A rule matches when .."
unfoldable pub matches : Table → Request → Rule → Bool
matches t q r = applies t q r and covers r.path q.path

-- "Best of the matching rules"
unfoldable pub decider : Table → Request → Option Numbered
decider t q = choose better (matches t q) 0 t.rules

-- "The answer is the action and that rule's number. With no match: deny, by default, no rule."
unfoldable pub action : Option Numbered → Bool
action none = false
action (some n) = n.rule.permit

-- the verdict as the action alone
unfoldable pub permits : Table → Request → Bool
permits t q = action (decider t q)

-- ---- the tree verdict

-- "A rule fits P when mode, origin and subject match, names agree as far as both go, and no key is given two definite values."
unfoldable pub fits : Table → Request → Rule → Bool
fits t q r = applies t q r and agree r.path q.path

-- "the rules that fit P and whose joined path gets the opposite verdict to P"
unfoldable pub opposes : Table → Request → Rule → Bool
opposes t q r = fits t q r and xor (permits t (at q (join r.path q.path))) (permits t q)

-- the tree answer; "with MIXED that number comes beside it"
pub data Tree : Type 0 where
  ALL NONE : Tree
  MIXED : Numbered → Tree

-- where no rule opposes, every path has P's verdict
unfoldable pub word : Bool → Tree
word true = ALL
word false = NONE

unfoldable pub answer : Bool → Option Numbered → Tree
answer b none = word b
answer b (some n) = MIXED n

-- "MIXED names .. the one with the smallest id"
unfoldable pub tree : Table → Request → Tree
tree t q = answer (permits t q) (choose earlier (opposes t q) 0 t.rules)
