-- The word of what `check_policy` answers.
use mathlib.Core.Path.{ap, ◌∙◌}
use Rattle.policy_check.specs.Answer.{check_of}
use Rattle.burgee.specs.Word.{policy_word}
use Rattle.burgee.specs.Calls.{outcome}
use Rattle.burgee.proofs.policies.burgee_policy_check.Goals as goal

pub returns : goal.returns
unfolding outcome
returns c = c.of_policy.ensures ∙ ap (λ k. policy_word (check_of k)) c.check_policy.ensures
