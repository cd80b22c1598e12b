-- The word of what `tree_verdict` answers.
use mathlib.Core.Path.{ap, ◌∙◌}
use Rattle.burgee.specs.Word.{tree_word}
use Rattle.burgee.specs.Calls.{outcome}
use Rattle.burgee.proofs.burgee_tree_verdict.Goals as goal

pub returns : goal.returns
unfolding outcome
returns c = c.of_tree.ensures ∙ ap tree_word c.tree_verdict.ensures
