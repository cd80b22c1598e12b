-- Factory answers as a table without rules does.
use native.Mathlib.Omega.{arith}
use mathlib.Core.Path.{◌∙◌}
use Rattle.rotation_probe.proofs.Empty.{empty, safe, holding, groups, path_is}
use Rattle.rotation_probe.proofs.factory_path.Goals as goal

pub invariant_of-rules : goal.invariant_of-rules
invariant_of-rules c = record { safe = safe _ _ _ (omega arith) }

pub returns : goal.returns
returns c = c.path_answer.ensures empty (holding _ _ _) (groups _ _) ∙ path_is _ _
