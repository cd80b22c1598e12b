-- What specs/Place says of rules, of such as have their places alone known.
use Rattle.std.specs.Prelude.{ℕ, Bool, List, get_or}
use Rattle.table.specs.Table as table
use Rattle.table_rows.specs.Rules.{rule_in, rules_in}
use Rattle.verdict_judge.specs.Rules.{Marked}
use Rattle.verdict_judge.specs.declared.rules.PlacedRules.{PlacedRules}

-- the rule with number i
abbrev pub nth : PlacedRules → ℕ → table.Rule
nth R i = rule_in R.bytes.now (get_or R.starts.now i 0)

abbrev pub of_rules : PlacedRules → List table.Rule
of_rules R = rules_in R.bytes.now R.starts.now R.count 0

-- `on` marks the rules that pass the test
abbrev pub marked : (table.Rule → Bool) → PlacedRules → List Bool → Type 0
marked app R on = Marked app R.bytes.now R.starts.now on R.count
