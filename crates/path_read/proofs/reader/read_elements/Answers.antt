use native.Mathlib.Omega.{arith}
use Rattle.limits.specs.Sizes.{max_elem_bytes, max_path_bytes}
use Rattle.path_read.specs.Steps.{max_growth, good_element, stores, nothing}
use Rattle.path_read.proofs.Storing.{storing_start, storing_long, storing_from, storing_none, storing_done, storing_turn, stored_to, stored_not, within_after, within_less, room_byte, room_end, room_after}
use Prim.Native.Nat.{◌*◌, ◌-◌}
use lib.ListN.{length-set}
use Rattle.path.specs.Bytes.{elem_bytes}
use Rattle.path_read.proofs.Reading.{some_left, next_inside, each_turn, each_unread, each_done, wrote_counted}
use Rattle.path_read.proofs.reader.read_elements.Goals as goal

pub loop-left-init : goal.loop-left-init
loop-left-init c = (
  storing_start elem_bytes _ _ _ (omega (
    arith,
    room_byte _ _ _ _ _ _ c.requires (omega arith) (omega arith),
  )),
  omega arith,
  record { few = omega arith; near = omega arith; inside = c.requires.starts },
)

pub overflow_add-p : goal.overflow_add-p
overflow_add-p c =
    omega (
      arith,
      next_inside 47 c.loop-left.left c.args.text.now c.loop-left.p _
          c.byte_at.ensures c.loop-left-test.true (omega arith),
    )

pub read_element-requires : goal.read_element-requires
read_element-requires c =
    let i = next_inside 47 c.loop-left.left c.args.text.now c.loop-left.p _
    c.byte_at.ensures c.loop-left-test.true (omega arith) in
    let z = some_left 47 c.loop-left.left c.args.text.now c.loop-left.p _ c.byte_at.ensures c.loop-left-test.true in
    room_after _ _ _ _ _ _ c.requires _ _ _ _ c.loop-left.invariant.2
    (omega (arith, storing_from _ _ _ _ _ _ _ _ c.loop-left.invariant.0)) max_elem_bytes 2 _ _
    (storing_long _ _ _ _ _ _ _ _ c.loop-left.invariant.0) (omega (arith, z, c.loop-left.invariant.1))
    (omega (arith, z, c.loop-left.invariant.1)) (omega (arith, i))

pub shape_of-out-in_err-next : goal.shape_of-out-in_err-next
shape_of-out-in_err-next c =
    omega (arith, c.read_element.auto.out, storing_long _ _ _ _ _ _ _ _ c.loop-left.invariant.0)

pub returns-in_err-next : goal.returns-in_err-next
returns-in_err-next c =
    rw c.from_residual.ensures (nothing (storing_none _ _ _ _ _ _ _ _ c.loop-left.invariant.0
    (each_unread 47 c.loop-left.left c.args.text.now c.loop-left.p _
    c.byte_at.ensures c.loop-left-test.true good_element
    (stored_not c.read_element.ensures c.in_err-next.was))))

pub overflow_sub-left : goal.overflow_sub-left
overflow_sub-left c =
    some_left 47 c.loop-left.left c.args.text.now c.loop-left.p _
    c.byte_at.ensures c.loop-left-test.true

pub loop-left-smaller : goal.loop-left-smaller
loop-left-smaller c =
    omega (
      arith,
      some_left 47 c.loop-left.left c.args.text.now c.loop-left.p
          _ c.byte_at.ensures c.loop-left-test.true,
    )

pub loop-left-preserved : goal.loop-left-preserved
loop-left-preserved c =
    let u = stored_to c.read_element.ensures c.in_ok-next.was in
    let z = some_left 47 c.loop-left.left c.args.text.now c.loop-left.p _ c.byte_at.ensures c.loop-left-test.true in
    let l = storing_long _ _ _ _ _ _ _ _ c.loop-left.invariant.0 in
    let o = storing_from _ _ _ _ _ _ _ _ c.loop-left.invariant.0 in
    let w = within_after (max_path_bytes - max_elem_bytes * c.loop-left.left) (max_growth - c.loop-left.left)
    max_elem_bytes 2 (max_path_bytes - max_elem_bytes * (c.loop-left.left - 1))
    (max_growth - (c.loop-left.left - 1)) _ _ _ _ _ _ _ _ c.loop-left.invariant.2 u.3
    (omega (arith, z, c.loop-left.invariant.1)) (omega (arith, z, c.loop-left.invariant.1)) in
    let f = room_end _ _ _ _ _ _ c.requires (max_path_bytes - max_elem_bytes * (c.loop-left.left - 1))
    (max_growth - (c.loop-left.left - 1)) _ _ w (omega (arith, u.2.ends)) (omega arith) (omega arith) in (
      storing_turn _ _ _ _ _ _ _ _ c.loop-left.invariant.0 u.0 _ _ _ _
          (each_turn 47 c.loop-left.left c.args.text.now c.loop-left.p _
          c.byte_at.ensures c.loop-left-test.true good_element u.0 _ u.1) u.2
          (omega (arith, u.2.ends, f)) (omega (arith, z, c.loop-left.invariant.1)),
      omega (arith, c.loop-left.invariant.1),
      w,
    )

pub bounds-out-0 : goal.bounds-out-0
bounds-out-0 c =
    omega (arith, storing_long _ _ _ _ _ _ _ _ c.loop-left.invariant.0, room_byte _ _ _ _ _ _ c.requires (omega arith) (omega arith))

pub shape_of-out : goal.shape_of-out
shape_of-out c = simp length-set (storing_long _ _ _ _ _ _ _ _ c.loop-left.invariant.0)

pub returns : goal.returns
returns c =
    stores (storing_done _ _ _ _ _ _ _ _ c.loop-left.invariant.0 _
    (each_done 47 c.loop-left.left c.args.text.now c.loop-left.p _ c.byte_at.ensures c.loop-left-test.false good_element))
    (wrote_counted elem_bytes _ _ _ _ _ _ c.loop-left.invariant.0.count c.loop-left.invariant.0.room
    c.loop-left.invariant.0.wrote) (within_less _ _ _ _ _ _ _ _ _ c.loop-left.invariant.2 (omega arith) (omega arith))
