-- The word of what `read_text` answers.
use mathlib.Core.Path.{ap, ◌∙◌}
use Rattle.text.specs.String.{Str}
use Rattle.burgee.specs.Word.{filled_word}
use Rattle.burgee.specs.Calls.{outcome, buffer}
use Rattle.burgee.proofs.burgee_path_read.Goals as goal

pub returns : goal.returns
unfolding outcome
returns c =
    (c.of_filled.ensures ∙ ap filled_word c.read_text.ensures.0, ap (λ (s : Str). buffer s) c.read_text.ensures.1)
