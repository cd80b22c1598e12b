-- The word of what `write_text` answers.
use mathlib.Core.Path.{ap, ◌∙◌}
use Rattle.text.specs.String.{Str}
use Rattle.burgee.specs.Word.{filled_word}
use Rattle.burgee.specs.Calls.{outcome, buffer}
use Rattle.burgee.proofs.burgee_path_write.Goals as goal

pub returns : goal.returns
unfolding outcome
returns c =
    (c.of_filled.ensures ∙ ap filled_word c.write_text.ensures.0, ap (λ (s : Str). buffer s) c.write_text.ensures.1)
