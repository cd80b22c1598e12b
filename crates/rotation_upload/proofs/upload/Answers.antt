use native.Mathlib.Omega.{arith}
use mathlib.Core.Path.{refl, sym}
use Rattle.rotation.specs.Calls.{uploaded}
use Rattle.rotation_upload.proofs.Errors.{err_is}
use Rattle.rotation_upload.proofs.Offered.{step_refused, step_accepted, upload_refused, upload_accepted, upload_room, upload_short}
use Rattle.rotation_upload.proofs.upload.Goals as goal

pub returns-in_err-answer : goal.returns-in_err-answer
returns-in_err-answer c =
    let h = err_is c.from_residual.result _ c.from_residual.ensures.1 in
    rw (h.1, h.2) (upload_refused _ _ _ _ c.in_err-answer.ensures _ _ _ refl (step_refused _ _ _ refl))

pub store_at-requires : goal.store_at-requires
store_at-requires c =
    (upload_room _ _ _ _ _ c.candidate_slot.ensures c.slot_start.ensures (sym c.in_ok-answer.ensures), upload_short _ _ _ (sym c.in_ok-answer.ensures))

pub overflow_cast-next : goal.overflow_cast-next
overflow_cast-next c = omega (arith, upload_short _ _ _ (sym c.in_ok-answer.ensures))

pub returns : goal.returns
unfolding uploaded
returns c =
    upload_accepted _ _ _ _ c.in_ok-answer.ensures _ _ _ _ _ refl
    c.candidate_slot.ensures c.slot_start.ensures refl (step_accepted _ _ _ refl) c.store_at.ensures
