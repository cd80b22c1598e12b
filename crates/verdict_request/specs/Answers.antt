-- Which answer a program's value is.
use Rattle.std.specs.Prelude.{Result, Ok, Err}
use Rattle.refusal.specs.Refusal.{number}
use Rattle.refusal.specs.declared.fault.Fault.{Fault}
use Rattle.verdict_request.specs.PathAnswer as path
use Rattle.verdict_request.specs.TreeAnswer as trees
use Rattle.verdict_request.specs.declared.PathAnswer.{PathAnswer}
use Rattle.verdict_request.specs.declared.PathAnswer.TheVariants as paths
use Rattle.verdict_request.specs.declared.TreeAnswer.{TreeAnswer}
use Rattle.verdict_request.specs.declared.TreeAnswer.TheVariants as spread

abbrev pub on_path : PathAnswer → path.PathAnswer
on_path (paths.Permit r) = path.Permit r
on_path (paths.Deny r) = path.Deny r
on_path paths.Default = path.Default

abbrev pub on_tree : TreeAnswer → trees.TreeAnswer
on_tree spread.All = trees.All
on_tree spread.None = trees.None
on_tree (spread.Mixed r) = trees.Mixed r

-- of a call
abbrev pub path_answer_of : Result PathAnswer Fault → path.PathAnswer
path_answer_of (Ok a) = on_path a
path_answer_of (Err f) = path.Refused (number f.refusal) f.line

abbrev pub tree_answer_of : Result TreeAnswer Fault → trees.TreeAnswer
tree_answer_of (Ok a) = on_tree a
tree_answer_of (Err f) = trees.Refused (number f.refusal) f.line
