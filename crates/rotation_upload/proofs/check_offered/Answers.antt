use Rattle.refusal.specs.Refusal.{at_line}
use mathlib.Core.Path.{◌≡◌}
use Rattle.rotation_upload.proofs.Errors.{err_is}
use Rattle.rotation_upload.proofs.Offered.{accepted_is, refused_is, offered_policy, offered_table}
use Rattle.rotation_upload.proofs.check_offered.Goals as goal

pub returns-in_err-check_policy : goal.returns-in_err-check_policy
returns-in_err-check_policy c =
    let h = err_is c.from_residual.result _ c.from_residual.ensures.1 in
    let i : h.0 ≡ at_line c.in_err-check_policy.field-0.0 0 = h.2 in
    rw (h.1, i) (offered_policy _ _ _ _ c.if-kind-eq1.true c.in_err-check_policy.ensures (refused_is _))

pub returns-then-kind-eq1 : goal.returns-then-kind-eq1
returns-then-kind-eq1 c =
    offered_policy _ _ _ _ c.if-kind-eq1.true c.in_ok-check_policy.ensures accepted_is

pub returns : goal.returns
returns c = offered_table _ _ _ c.if-kind-eq1.false c.check_table.ensures
