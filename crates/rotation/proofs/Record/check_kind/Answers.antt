use Rattle.refusal.proofs.Numbers.{never_clear, err_is}
use Rattle.rotation.specs.Calls.{probe_refusal}
use Rattle.rotation.proofs.Tests.{refused_first}
use Rattle.rotation.proofs.Record.check_kind.Goals as goal

pub returns-in_err-check : goal.returns-in_err-check
unfolding probe_refusal
returns-in_err-check c =
    rw (err_is c.from_residual.result _ c.from_residual.ensures.1)
    (refused_first _ _ _ _ c.in_err-check.ensures (never_clear _))
