-- What a call that stores is lent and leaves, as the other pages say it.
use mathlib.Core.Path.{◌≡◌, refl}
use Rattle.rotation.specs.Machine.{Call, Start, Upload, Finalize, Close, Lent, leaves}
use Rattle.rotation_upload.specs.Offered.{offered_check}
use Rattle.burgee.specs.Calls.{held, outcome, before, after}
use Rattle.promises.specs.Leaves.{publicly, Leaves}

was_lent : (c : Call) (l : Lent) → before (publicly c l) ≡ held l.state l.store
unfolding outcome
was_lent Start l = refl
was_lent (Upload text) l = refl
was_lent Finalize l = refl
was_lent Close l = refl

is_left : (c : Call) (l : Lent) → after (publicly c l) ≡ held (leaves offered_check c l).state (leaves offered_check c l).store
unfolding outcome leaves
is_left Start l = refl
is_left (Upload text) l = refl
is_left Finalize l = refl
is_left Close l = refl

pub left : Leaves
unfolding outcome
left = record {
  read_before = λ text out. refl;
  read_after = λ text out. refl;
  write_before = λ bytes out. refl;
  write_after = λ bytes out. refl;
  report_before = λ table log out. refl;
  report_after = λ table log out. refl;
  step_before = was_lent;
  step_after = is_left;
}
