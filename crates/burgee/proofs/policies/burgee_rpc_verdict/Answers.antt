-- The word of what `rpc_verdict` answers.
use mathlib.Core.Path.{ap, ◌∙◌}
use Rattle.burgee.specs.Word.{rpc_word}
use Rattle.burgee.specs.Calls.{outcome}
use Rattle.burgee.proofs.policies.burgee_rpc_verdict.Goals as goal

pub returns : goal.returns
unfolding outcome
returns c = c.of_rpc.ensures ∙ ap rpc_word c.rpc_verdict.ensures
