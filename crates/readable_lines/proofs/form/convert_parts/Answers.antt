use native.Mathlib.Omega.{arith}
use Rattle.readable_parts.specs.Steps.{stops}
use Rattle.readable_parts.proofs.Stored.{put_to, put_not}
use Rattle.readable_lines.proofs.Converting.{going_start, going_long, going_room, going_stop, going_turn, going_done}
use Rattle.readable_lines.proofs.form.convert_parts.Goals as goal

pub loop-c-init : goal.loop-c-init
loop-c-init c = going_start _ _ _ _ _ _ c.requires.1

pub convert_part-requires : goal.convert_part-requires
convert_part-requires c =
    (going_room _ _ _ _ _ _ c.requires.0 _ _ _ _ c.loop-c.invariant c.loop-c-test.true, c.loop-c.invariant.inside)

pub shape_of-out-in_err-done : goal.shape_of-out-in_err-done
shape_of-out-in_err-done c =
    omega (arith, c.convert_part.auto.out, going_long _ _ _ _ _ _ c.requires.0 _ _ _ _ c.loop-c.invariant)

pub returns-in_err-done : goal.returns-in_err-done
returns-in_err-done c =
    rw c.from_residual.ensures (stops (going_stop _ _ _ _ _ _ c.requires.0 _ _ _ _ c.loop-c.invariant
    c.loop-c-test.true (put_not c.convert_part.ensures c.in_err-done.was)))

pub loop-c-preserved : goal.loop-c-preserved
loop-c-preserved c =
    let u = put_to c.convert_part.ensures c.in_ok-done.was in
    going_turn _ _ _ _ _ _ c.requires.0 _ _ _ _ c.loop-c.invariant c.loop-c-test.true _ _ _ _ u.1 u.2 u.3 u.4

pub shape_of-out : goal.shape_of-out
shape_of-out c =
    going_long _ _ _ _ _ _ c.requires.0 _ _ _ _ c.loop-c.invariant

pub returns : goal.returns
returns c =
    going_done _ _ _ _ _ _ c.requires.0 _ _ _ _ c.loop-c.invariant c.loop-c-test.false
