-- What is printed for a verdict on a table, one fact a line.
use Rattle.std.specs.Prelude.{[], ◌++◌}
use Rattle.limits.specs.Limits.{max_string}
use Rattle.text.specs.String.{Str, bytes}
use Rattle.table.specs.Text.{check, table_of}
use Rattle.table.specs.declared.RuleNumber.{RuleNumber}
use Rattle.table_facts.specs.Facts.{name_of}
use Rattle.table_facts.specs.declared.Row.{Row}
use Rattle.table_facts.specs.declared.Row.TheVariants.{Rule}
use Rattle.verdict_request.specs.PathAnswer.{PathAnswer}
use Rattle.verdict_request.specs.PathAnswer as path
use Rattle.verdict_request.specs.TreeAnswer.{TreeAnswer}
use Rattle.verdict_request.specs.TreeAnswer as trees
use Rattle.text_make.specs.Text.{up_to, fact}
use Rattle.cli_answers.specs.declared.lines.Fallback.{Fallback}
use Rattle.cli_answers.specs.declared.lines.Fallback.TheVariants as fallback

-- the name of a group, the id of a rule: no string of a table is longer
unfoldable pub name_in : Str → Row → Str
name_in text row = up_to max_string (name_of (check text) (table_of text) row)

-- an answer, and the number and the id of the rule that it is by
unfoldable pub by_rule : Str → Str → RuleNumber → Str
by_rule text answer rule = fact answer rule.0 ++ bytes "id " ++ name_in text (Rule rule) ++ bytes "\n"

-- why a path is denied though no rule says so
unfoldable pub reason : Fallback → Str
reason fallback.Default = bytes "default\n"
reason fallback.Explained = bytes "default\nno rule matches\n"
reason fallback.Factory = bytes "factory\n"

-- the action and the deciding rule; a refusal has words of its own
unfoldable pub path_lines : Str → Fallback → PathAnswer → Str
path_lines text f (path.Permit rule) = by_rule text (bytes "permit\nrule ") rule
path_lines text f (path.Deny rule) = by_rule text (bytes "deny\nrule ") rule
path_lines text f path.Default = bytes "deny\n" ++ reason f
path_lines text f (path.Refused number line) = []

-- where no path is permitted
unfoldable pub none_lines : Fallback → Str
none_lines fallback.Default = bytes "NONE\n"
none_lines fallback.Explained = bytes "NONE\n"
none_lines fallback.Factory = bytes "NONE\nfactory\n"

-- the tree answer, and the rule that MIXED names
unfoldable pub tree_lines : Str → Fallback → TreeAnswer → Str
tree_lines text f trees.All = bytes "ALL\n"
tree_lines text f trees.None = none_lines f
tree_lines text f (trees.Mixed rule) = by_rule text (bytes "MIXED\nrule ") rule
tree_lines text f (trees.Refused number line) = []
