-- The word of what `probe_tree` answers.
use mathlib.Core.Path.{ap, ◌∙◌}
use Rattle.burgee.specs.Word.{tree_word}
use Rattle.burgee.specs.Calls.{outcome}
use Rattle.burgee.proofs.probes.burgee_probe_tree.Goals as goal

pub returns : goal.returns
unfolding outcome
returns c =
    let told = rw c.record_of-r.ensures at c.probe_tree.ensures in
    c.of_tree.ensures ∙ ap tree_word told
