-- Rules of a checked table that lie within its decoded bytes, and marks for them.
use Rattle.std.specs.Prelude.{◌≡◌, ℕ, ◌≤◌, ◌<◌, Bool, true, false, List, length, get_or}
use Rattle.limits.specs.Limits.{max_groups, max_rules}
use Rattle.table.specs.Table.{Rule}
use Rattle.table_rows.specs.Rules.{rule_in, rule_end}

-- each of the first n rules lies within the bytes
abbrev pub RulesLaid : List ℕ → List ℕ → ℕ → Type 0
RulesLaid f starts n = (i : ℕ) → i < n → rule_end f (get_or starts i 0) ≤ length f

-- positions in the bytes fit 16 bits
abbrev pub Short : List ℕ → Type 0
Short f = length f < 65536

-- n rules lie within the bytes, at the positions that `starts` has
pub record Placed (f starts : List ℕ) (n : ℕ) : Type 0 where
  pub laid : RulesLaid f starts n
  pub each : n ≤ length starts
  pub short : Short f

-- n rules, and the number of the group of each whose subject is one, can be read. What the rules say is no part of it.
pub record Safe (f starts holders : List ℕ) (n : ℕ) : Type 0 where
  pub rules : Placed f starts n
  pub few : n ≤ max_rules
  pub each : n ≤ length holders
  pub groups : (i : ℕ) → i < n → (rule_in f (get_or starts i 0)).by_group ≡ true → get_or holders i 0 < max_groups

-- `on` marks the rules that pass the test
abbrev pub Marked : (Rule → Bool) → List ℕ → List ℕ → List Bool → ℕ → Type 0
Marked app f starts on n = (i : ℕ) → i < n → get_or on i false ≡ app (rule_in f (get_or starts i 0))
