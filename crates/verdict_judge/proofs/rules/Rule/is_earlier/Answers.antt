use mathlib.Core.Path.{◌∙◌}
use Rattle.verdict_judge.proofs.Parts.{earlier_by}
use Rattle.verdict_judge.proofs.rules.Rule.is_earlier.Goals as goal

pub returns : goal.returns
returns c = c.is_before.ensures ∙ earlier_by _ _ _ _ c.id.ensures c.id-2.ensures
