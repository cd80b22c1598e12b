-- The word of what `probe_path` answers.
use mathlib.Core.Path.{ap, ◌∙◌}
use Rattle.burgee.specs.Word.{path_word}
use Rattle.burgee.specs.Calls.{outcome}
use Rattle.burgee.proofs.probes.burgee_probe_path.Goals as goal

pub returns : goal.returns
unfolding outcome
returns c =
    let told = rw c.record_of-r.ensures at c.probe_path.ensures in
    c.of_path.ensures ∙ ap path_word told
