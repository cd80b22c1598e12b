-- What the programs on the page need and answer.
use Rattle.std.specs.Prelude.{ℕ, ◌+◌, ◌*◌, ◌≡◌, List, [], eqb}
use Rattle.limits.specs.Limits.{max_rules}
use Rattle.text.specs.Test.{whether◌then◌else◌}
use Rattle.text.specs.String.{Str}
use Rattle.table.specs.Table.{Rule}
use Rattle.table.specs.Text.{check, table_of}
use Rattle.table_rows.specs.Rules.{rules_in}
use Rattle.verdict_judge.specs.declared.rules.Rules.{Rules}
use Rattle.table.specs.Checked.{Accepted}
use Rattle.cli_season_rules.specs.Steps.{max_rule_line, max_decided_line}
use Rattle.cli_season.specs.Page.{none_line, page}

-- told where a list of lines, which ends where it starts, has none
unfoldable pub none_from : ℕ → ℕ → Str
none_from start end = whether eqb start end then none_line else []

-- room for a page
abbrev pub max_page : ℕ
max_page = max_rules * (max_decided_line + max_rule_line) + 600

-- the rules, one after another
abbrev pub rules_of : Rules → List Rule
rules_of R = rules_in R.bytes.now R.starts.now R.count 0

-- the page on the table's rules was made, if the table is accepted
abbrev pub MakesPage : Str → List ℕ → List (List ℕ) → Str → Type 0
MakesPage text counts grid made = check text ≡ Accepted → made ≡ page (table_of text).rules counts grid
