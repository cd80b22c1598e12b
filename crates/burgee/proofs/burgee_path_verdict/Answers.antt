-- The word of what `path_verdict` answers.
use mathlib.Core.Path.{ap, ◌∙◌}
use Rattle.burgee.specs.Word.{path_word}
use Rattle.burgee.specs.Calls.{outcome}
use Rattle.burgee.proofs.burgee_path_verdict.Goals as goal

pub returns : goal.returns
unfolding outcome
returns c = c.of_path.ensures ∙ ap path_word c.path_verdict.ensures
