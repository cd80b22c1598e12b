use Rattle.refusal.proofs.Numbers.{err_is}
use Rattle.rotation.specs.Calls.{closed}
use Rattle.rotation_step.proofs.Steps.{close_err, close_ok}
use Rattle.rotation_step.proofs.close.Goals as goal

pub returns-in_err-check_on : goal.returns-in_err-check_on
returns-in_err-check_on c = rw (err_is c.from_residual.result _ c.from_residual.ensures.1) (close_err _ _ _ c.in_err-check_on.ensures)

pub returns : goal.returns
unfolding closed
returns c = close_ok _ _ _ c.at_rest.ensures c.in_ok-check_on.ensures
