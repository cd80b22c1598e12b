-- `read_value` stores the value after its length, which is stored last.
use native.Mathlib.Omega.{arith}
use Rattle.path_read.specs.Steps.{stores, nothing}
use Rattle.path_read.proofs.Storing.{stored_to, stored_not, room_byte}
use Rattle.path_read.proofs.Reading.{wrote_value, value_room, value_within, value_fits}
use Rattle.path_read.proofs.reader.read_value.Goals as goal

pub overflow_add-start : goal.overflow_add-start
overflow_add-start c = omega (arith, room_byte _ _ _ _ _ _ c.requires (omega arith) (omega arith))

pub read_plain-requires : goal.read_plain-requires
read_plain-requires c = value_room _ _ _ _ c.requires

pub returns-in_err-next : goal.returns-in_err-next
returns-in_err-next c =
    rw c.from_residual.ensures (nothing (stored_not c.read_plain.ensures c.in_err-next.was))

pub overflow_sub-out : goal.overflow_sub-out
overflow_sub-out c =
    let u = stored_to c.read_plain.ensures c.in_ok-next.was in omega (arith, u.2.ends)

pub overflow_cast-out : goal.overflow_cast-out
overflow_cast-out c =
    let u = stored_to c.read_plain.ensures c.in_ok-next.was in omega (arith, u.2.ends, u.3.few)

pub bounds-out-to : goal.bounds-out-to
bounds-out-to c =
    omega (arith, room_byte _ _ _ _ _ _ c.requires (omega arith) (omega arith), c.read_plain.auto.out)

pub returns : goal.returns
returns c =
    let u = stored_to c.read_plain.ensures c.in_ok-next.was in
    stores u.1 (wrote_value _ _ _ _ _ (value_fits _ _ _ _ c.requires _ _ u.3 (omega (arith, u.2.ends)))
    u.2) (value_within _ _ _ _ c.requires _ _ u.3)
