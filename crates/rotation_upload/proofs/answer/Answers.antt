use Rattle.std.proofs.Common.{refl}
use Rattle.refusal.specs.Refusal.{at_line}
use mathlib.Core.Path.{◌≡◌}
use Rattle.refusal.proofs.Numbers.{never_clear}
use Rattle.rotation_upload.proofs.Errors.{err_is}
use Rattle.rotation_upload.proofs.Offered.{answer_refused, answer_offered}
use Rattle.rotation_upload.proofs.answer.Goals as goal

pub returns-in_err-check_on : goal.returns-in_err-check_on
returns-in_err-check_on c =
    let h = err_is c.from_residual.result _ c.from_residual.ensures.1 in
    let i : h.0 ≡ at_line c.in_err-check_on.field-0.0 0 = h.2 in
    rw (h.1, i) (answer_refused _ _ _ _ c.in_err-check_on.ensures (never_clear _))

pub returns : goal.returns
returns c = answer_offered _ _ _ _ _ c.in_ok-check_on.ensures refl c.check_offered.ensures
