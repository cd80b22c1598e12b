use native.Mathlib.Omega.{arith}
use mathlib.Core.Path.{ap, ◌∙◌}
use Rattle.std.specs.Prelude.{Some}
use Rattle.path_read.specs.Steps.{stores, nothing}
use Rattle.path_read.proofs.Storing.{storing_from, room_start, storing_start, storing_long, storing_none, storing_done, storing_turn}
use Rattle.path_read.proofs.Reading.{byte_inside, plain_turn, plain_room, plain_end, single, wrote_plain, end_inside, value_end, value_stop, value_full, value_turn}
use Prim.Native.Nat.{◌-◌}
use Rattle.text.proofs.Filling.{wrote_byte}
use Rattle.path_read.proofs.Sound.{inside}
use Rattle.path_read.proofs.reader.read_plain.Goals as goal

pub loop-byte-init : goal.loop-byte-init
loop-byte-init c = (
  storing_start single _ _ _ (room_start _ _ _ _ _ _ c.requires),
  omega arith,
  record { few = omega arith; near = omega arith; inside = c.requires.starts },
)

pub shape_of-out-then-left-eq0 : goal.shape_of-out-then-left-eq0
shape_of-out-then-left-eq0 c =
    storing_long _ _ _ _ _ _ _ _ c.loop-byte.invariant.0

pub returns-then-left-eq0 : goal.returns-then-left-eq0
returns-then-left-eq0 c =
    nothing (storing_none _ _ _ _ _ _ _ _ c.loop-byte.invariant.0
    (value_full _ _ _ c.read_item.ensures c.loop-byte.left _ _ c.if-left-eq0.true (c.in_ok-byte.was ∙ ap Some c.in-Byte.is)))

pub bounds-out-q : goal.bounds-out-q
bounds-out-q c =
    omega (
      arith,
      plain_room _ _ c.loop-byte.left _ _ _ c.loop-byte.invariant.2 c.loop-byte.invariant.1 _
          (byte_inside _ _ _ c.read_item.ensures _ _ (c.in_ok-byte.was ∙ ap Some c.in-Byte.is)) c.if-left-eq0.false _
          c.requires (storing_from _ _ _ _ _ _ _ _ c.loop-byte.invariant.0),
      storing_long _ _ _ _ _ _ _ _ c.loop-byte.invariant.0,
    )

pub overflow_add-q : goal.overflow_add-q
overflow_add-q c =
    omega (
      arith,
      plain_room _ _ c.loop-byte.left _ _ _ c.loop-byte.invariant.2 c.loop-byte.invariant.1 _
          (byte_inside _ _ _ c.read_item.ensures _ _ (c.in_ok-byte.was ∙ ap Some c.in-Byte.is)) c.if-left-eq0.false _
          c.requires (storing_from _ _ _ _ _ _ _ _ c.loop-byte.invariant.0),
    )

pub loop-byte-preserved : goal.loop-byte-preserved
loop-byte-preserved c =
    let i = byte_inside _ _ _ c.read_item.ensures _ _ (c.in_ok-byte.was ∙ ap Some c.in-Byte.is) in
    let l = plain_room _ _ c.loop-byte.left _ _ _ c.loop-byte.invariant.2 c.loop-byte.invariant.1 _ i
    c.if-left-eq0.false _ c.requires (storing_from _ _ _ _ _ _ _ _ c.loop-byte.invariant.0) in
    let o = storing_long _ _ _ _ _ _ _ _ c.loop-byte.invariant.0 in (
      storing_turn _ _ _ _ _ _ _ _ c.loop-byte.invariant.0 _ _ _ _ _
          (value_turn _ _ _ c.read_item.ensures c.loop-byte.left _ _ c.if-left-eq0.false (c.in_ok-byte.was ∙ ap Some c.in-Byte.is))
          (wrote_byte _ _ _ (omega arith)) (omega arith) (omega (arith, c.loop-byte.invariant.1, c.if-left-eq0.false)),
      omega (arith, c.loop-byte.invariant.1),
      plain_turn _ _ c.loop-byte.left _ _ _ c.loop-byte.invariant.2 c.loop-byte.invariant.1 _ i c.if-left-eq0.false,
    )

pub overflow_add-result : goal.overflow_add-result
overflow_add-result c =
    omega (
      arith,
      inside c.args.text.now c.loop-byte.p 93 (omega arith)
          (end_inside c.args.text.now c.loop-byte.p _ c.read_item.ensures (c.in_ok-byte.was ∙ ap Some c.in-End.is)),
    )

pub shape_of-out-in-End : goal.shape_of-out-in-End
shape_of-out-in-End c = storing_long _ _ _ _ _ _ _ _ c.loop-byte.invariant.0

pub returns-in-End : goal.returns-in-End
returns-in-End c =
    stores (storing_done _ _ _ _ _ _ _ _ c.loop-byte.invariant.0 _
    (value_end _ _ _ c.read_item.ensures c.loop-byte.left (c.in_ok-byte.was ∙ ap Some c.in-End.is)))
    (wrote_plain _ _ _ _ _ c.loop-byte.invariant.0.wrote)
    (plain_end _ _ c.loop-byte.left _ _ _ c.loop-byte.invariant.2 c.loop-byte.invariant.1
    (inside c.args.text.now c.loop-byte.p 93 (omega arith)
    (end_inside c.args.text.now c.loop-byte.p _ c.read_item.ensures (c.in_ok-byte.was ∙ ap Some c.in-End.is))))

pub returns-in_err-byte : goal.returns-in_err-byte
returns-in_err-byte c =
    rw c.from_residual.ensures (nothing (storing_none _ _ _ _ _ _ _ _ c.loop-byte.invariant.0
    (value_stop _ _ _ c.read_item.ensures c.loop-byte.left c.in_err-byte.was)))
