-- The word of what `probe_rpc` answers.
use mathlib.Core.Path.{ap, ◌∙◌}
use Rattle.burgee.specs.Word.{rpc_probe_word}
use Rattle.burgee.specs.Calls.{outcome}
use Rattle.burgee.proofs.probes.burgee_probe_rpc.Goals as goal

pub returns : goal.returns
unfolding outcome
returns c =
    let told = rw c.record_of-r.ensures at c.probe_rpc.ensures in
    c.of_rpc_probe.ensures ∙ ap rpc_probe_word told
