use Rattle.std.proofs.Common.{sym, ◌∙◌}
use Rattle.refusal.proofs.Numbers.{never_clear, err_is}
use Rattle.rotation.specs.Calls.{finalized}
use Rattle.rotation_step.proofs.Steps.{first_finalize, no_candidate_refused, candidate_fine, length_is, finalize_err, finalize_ok}
use Rattle.rotation_step.proofs.finalize.Goals as goal

pub returns-in_err-check_on : goal.returns-in_err-check_on
returns-in_err-check_on c =
    rw (err_is c.from_residual.result _ c.from_residual.ensures.1)
    (finalize_err _ _ _ (first_finalize _ _ _ c.in_err-check_on.ensures (never_clear _)))

pub returns-in_default : goal.returns-in_default
returns-in_default c =
    rw c.from.ensures (finalize_err _ _ _ (no_candidate_refused _ _ c.in_ok-check_on.ensures (sym c.candidate.ensures ∙ c.in_default.is)))

pub returns : goal.returns
unfolding finalized
returns c =
    let is = sym c.candidate.ensures ∙ c.in-Some.is in
    finalize_ok _ _ _ (rw (c.at_rest.ensures, c.candidate_slot.ensures, length_is _ _ is)) (candidate_fine _ _ _ c.in_ok-check_on.ensures is)
