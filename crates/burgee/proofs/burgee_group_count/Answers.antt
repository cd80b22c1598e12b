-- The word of what `count_groups` answers.
use mathlib.Core.Path.{ap, ◌∙◌}
use Rattle.burgee.specs.Word.{counted_word}
use Rattle.burgee.specs.Calls.{outcome}
use Rattle.burgee.proofs.burgee_group_count.Goals as goal

pub returns : goal.returns
unfolding outcome
returns c = c.of_counted.ensures ∙ ap counted_word c.count_groups.ensures
