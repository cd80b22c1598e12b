use Rattle.std.proofs.Common.{sym, ◌∙◌}
use Rattle.refusal.proofs.Numbers.{never_clear, err_is}
use Rattle.rotation.specs.Calls.{off_refusal}
use Rattle.rotation.proofs.Tests.{refused_first}
use Rattle.rotation_step.proofs.Steps.{off_call, on_call}
use Rattle.rotation_step.proofs.check_on.Goals as goal

pub returns-in_err-check : goal.returns-in_err-check
unfolding off_refusal
returns-in_err-check c =
    rw (err_is c.from_residual.result _ c.from_residual.ensures.1)
    (refused_first _ _ _ _ c.in_err-check.ensures (never_clear _))

pub returns-then-not-is_on : goal.returns-then-not-is_on
returns-then-not-is_on c = off_call _ _ c.in_ok-check.ensures (sym c.is_on.ensures ∙ c.if-not-is_on.true)

pub returns : goal.returns
returns c = on_call _ _ c.in_ok-check.ensures (sym c.is_on.ensures ∙ c.if-not-is_on.false)
