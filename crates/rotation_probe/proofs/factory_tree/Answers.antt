-- Factory answers as a table without rules does.
use native.Mathlib.Omega.{arith}
use mathlib.Core.Path.{◌∙◌}
use Rattle.rotation_probe.proofs.Empty.{empty, safe, holding, groups, tree_is}
use Rattle.rotation_probe.proofs.factory_tree.Goals as goal

pub invariant_of-rules : goal.invariant_of-rules
invariant_of-rules c = record { safe = safe _ _ _ (omega arith) }

pub returns : goal.returns
returns c = c.tree_answer.ensures empty (holding _ _ _) (groups _ _) ∙ tree_is _ _
