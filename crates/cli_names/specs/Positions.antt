-- Users by the positions of their names in decoded bytes, for programs.
use Rattle.std.specs.Prelude.{ℕ, zero, suc, ◌+◌, ◌≤◌, ◌≡◌, Bool, List, [], ◌∷◌, ◌++◌, eqb, length, get_or, set}
use Rattle.limits.specs.Limits.{max_members, max_rules}
use Rattle.limits.specs.Sizes.{max_table_bytes}
use Rattle.text.specs.Test.{whether◌then◌else◌, only}
use Rattle.text.specs.String.{Str}
use Rattle.table.specs.Layout.{rule_subject_kind, rule_subject}
use Rattle.table_place.specs.Place.{str_in}
use Rattle.table_rows.specs.Strings.{strings_in, Laid, Listed}
use Rattle.table_facts.specs.Facts.{Identified}
use Rattle.cli_names.specs.Names.{alike, gather}

-- the users whom n rules name, the first rule with number i
unfoldable pub subjects_in : List ℕ → List ℕ → ℕ → ℕ → List Str
subjects_in f starts zero i = []
subjects_in f starts (suc n) i =
    whether eqb (get_or f (get_or starts i 0 + rule_subject_kind) 0) 1 then subjects_in f starts n (suc i)
    else str_in f (get_or starts i 0 + rule_subject) ∷ subjects_in f starts n (suc i)

-- those whom member lines and rules name
abbrev pub users_in : List ℕ → List ℕ → ℕ → List ℕ → ℕ → List Str
users_in f users members starts rules = strings_in f users members 0 ++ subjects_in f starts rules 0

-- the first n positions of an array are those of these names
pub record Stand (f places : List ℕ) (n : ℕ) (names : List Str) : Type 0 where
  pub laid : Laid f places n
  pub are : strings_in f places n 0 ≡ names

-- a position after the first m, where the test holds
pub record Pushed (test : Bool) (places : List ℕ) (m at : ℕ) (places' : List ℕ) (r : ℕ) : Type 0 where
  pub count : r ≡ (whether test then m + 1 else m)
  pub same : places' ≡ (whether test then set places m at else places)

-- the rules can be read, and there is room for a position of each
pub record RulesReady (f starts : List ℕ) (n : ℕ) (places : List ℕ) : Type 0 where
  pub rules : Identified f starts n
  pub short : length f ≤ max_table_bytes
  pub room : n ≤ length places

-- n names of which some are gathered after m others, and there is room for them
pub record GatherReady (f starts : List ℕ) (n : ℕ) (kept : List ℕ) (m : ℕ) : Type 0 where
  pub names : Listed f starts n
  pub laid : Laid f kept m
  pub room : m + n ≤ length kept

pub record Gathered (f starts : List ℕ) (n : ℕ) (user : Str) (kept : List ℕ) (m : ℕ) (kept' : List ℕ) (r : ℕ) : Type 0 where
  pub stand : Stand f kept' r (gather (strings_in f kept m 0) (only (alike user) (strings_in f starts n 0)))
  pub count : r ≤ m + n
  pub long : length kept' ≡ length kept

-- the users and rules of a loaded table
pub record TableReady (f users : List ℕ) (members : ℕ) (starts : List ℕ) (rules : ℕ) : Type 0 where
  pub users_listed : Listed f users members
  pub rules_placed : Identified f starts rules
  pub short : length f ≤ max_table_bytes
  pub few : (members ≤ max_members) × (rules ≤ max_rules)
