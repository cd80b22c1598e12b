-- The word of what `check_table` answers.
use mathlib.Core.Path.{ap, ◌∙◌}
use Rattle.burgee.specs.Word.{checked_word}
use Rattle.burgee.specs.Calls.{outcome}
use Rattle.burgee.proofs.burgee_table_check.Goals as goal

pub returns : goal.returns
unfolding outcome
returns c = c.of_checked.ensures ∙ ap checked_word c.check_table.ensures
