use Rattle.std.proofs.Common.{sym, refl, ◌∙◌}
use Rattle.refusal.proofs.Numbers.{never_clear, err_is}
use Rattle.rotation.specs.Calls.{start_refusal, started}
use Rattle.rotation.proofs.Tests.{refused_first}
use Rattle.rotation_step.proofs.Steps.{start_err, start_ok, on_start, off_start}
use Rattle.rotation_step.proofs.start.Goals as goal

pub returns-in_err-check : goal.returns-in_err-check
unfolding start_refusal
returns-in_err-check c =
    rw (err_is c.from_residual.result _ c.from_residual.ensures.1)
    (start_err _ _ _ (refused_first _ _ _ _ c.in_err-check.ensures (never_clear _)))

pub returns-then-is_on : goal.returns-then-is_on
returns-then-is_on c =
    rw c.from.ensures (start_err _ _ _ (on_start _ _ c.in_ok-check.ensures (sym c.is_on.ensures ∙ c.if-is_on.true)))

pub returns : goal.returns
unfolding started
returns c = start_ok _ _ _ refl (off_start _ _ c.in_ok-check.ensures (sym c.is_on.ensures ∙ c.if-is_on.false))
