-- The word of what `season_report` answers.
use mathlib.Core.Path.{ap, ◌∙◌}
use Rattle.text.specs.String.{Str}
use Rattle.burgee.specs.Word.{reported_word}
use Rattle.burgee.specs.Calls.{outcome, buffer}
use Rattle.burgee.proofs.burgee_season_report.Goals as goal

pub returns : goal.returns
unfolding outcome
returns c = (
  c.of_reported.ensures ∙ ap reported_word c.season_report.ensures.value,
  ap (λ (s : Str). buffer s) c.season_report.ensures.out_after,
)
