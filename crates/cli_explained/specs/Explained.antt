-- What an explanation prints of the rules that match.
use Rattle.std.specs.Prelude.{ℕ, ◌+◌, false, List, [], ◌∷◌, ◌++◌, eqb, get_or}
use Rattle.limits.specs.Limits.{max_string}
use Rattle.text.specs.Test.{whether◌then◌else◌}
use Rattle.text.specs.String.{Str, bytes}
use Rattle.table.specs.Table.{Rule, Table}
use Rattle.table.specs.Text.{table_of}
use Rattle.verdict.specs.Verdict.{Request}
use Rattle.verdict_request.specs.Calls.{request, path_verdict}
use Rattle.verdict_request.specs.PathAnswer.{PathAnswer}
use Rattle.verdict_request.specs.PathAnswer as path
use Rattle.verdict_explain.specs.Ranking.{ranking}
use Rattle.verdict_explain.specs.Standing.{standing, step_of}
use Rattle.verdict_explain.specs.declared.Standing.{Standing}
use Rattle.verdict_explain.specs.declared.Step.{Step}
use Rattle.verdict_explain.specs.declared.Step.TheVariants as step
use Rattle.text_make.specs.Decimal.{decimal}
use Rattle.text_make.specs.Text.{up_to}

unfoldable pub step_name : Step → Str
step_name step.Elements = bytes "elements"
step_name step.Keys = bytes "definite keys"
step_name step.Subject = bytes "user over group"
step_name step.Action = bytes "deny over permit"
step_name step.Id = bytes "smaller id"

-- the first rule decides; another lost to it at a step of the ranking
unfoldable pub fate : ℕ → Step → Str
fate place s = whether eqb place 1 then bytes " decides: rule " else bytes " lost at " ++ step_name s ++ bytes ": rule "

unfoldable pub action_text : Standing → Str
action_text s = whether s.permit then bytes ", permit, elements " else bytes ", deny, elements "

unfoldable pub subject_text : Standing → Str
subject_text s = whether s.group then bytes ", group, id " else bytes ", user, id "

-- what the ranking looks at in a rule
unfoldable pub standing_text : Standing → Str
standing_text s = action_text s ++ decimal s.elements ++ bytes ", definite keys " ++ decimal s.keys ++ subject_text s

-- a rule's place, its fate, its number and its standing
unfoldable pub ranked : ℕ → ℕ → Standing → Step → Str
ranked place number own s = decimal place ++ fate place s ++ decimal number ++ standing_text own

-- the rule of that number at its place of the ranking, whose first rule is `best`
unfoldable pub ranked_line : ℕ → ℕ → Rule → Rule → Str
ranked_line place number rule best =
    ranked place number (standing rule) (step_of (standing rule) (standing best)) ++ up_to max_string rule.id ++ bytes "\n"

-- ---- the whole ranking

-- where no rule has a number
unfoldable pub no_rule : Rule
no_rule = record { permit = false; mode = 0; by_group = false; subject = []; id = []; origin = []; path = [] }

-- "Rules .. are numbered from 0 in text order."
unfoldable pub rule_of : List Rule → ℕ → Rule
rule_of rules n = get_or rules n no_rule

-- the lines of the rules of these numbers, from that place of the ranking on
unfoldable pub lines_from : List Rule → Rule → ℕ → List ℕ → Str
lines_from rules best place [] = []
lines_from rules best place (n ∷ ns) = ranked_line place n (rule_of rules n) best ++ lines_from rules best (place + 1) ns

-- a line for each rule of a ranking, in its order
unfoldable pub ranking_lines : List Rule → List ℕ → Str
ranking_lines rules order = lines_from rules (rule_of rules (get_or order 0 0)) 1 order

-- those of the rules that match a request
unfoldable pub match_lines : Table → Request → Str
match_lines t q = ranking_lines t.rules (ranking t q)

-- below the verdict, where a rule decides
unfoldable pub below : PathAnswer → Str → Str
below (path.Permit rule) matches = matches
below (path.Deny rule) matches = matches
below path.Default matches = []
below (path.Refused number line) matches = []

-- what `burgee explain` prints below the verdict
unfoldable pub explanation : Str → Str → ℕ → Str → Str → Str
explanation text user mode origin p = below (path_verdict text user mode origin p) (match_lines (table_of text) (request user mode origin p))
