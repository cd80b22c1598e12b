-- `string` stores the string in brackets.
use native.Mathlib.Omega.{arith}
use Rattle.text.proofs.Frames.{string_ends}
use Rattle.path_read.proofs.Reading.{part_length}
use Rattle.readable_parts.specs.Steps.{stops}
use Rattle.readable_parts.proofs.Showing.{string_unshown, long_unshown, string_shown, value_fits, close_room, closed_long, string_puts}
use Rattle.readable_parts.proofs.shown.string.Goals as goal

pub returns-in_err-end : goal.returns-in_err-end
returns-in_err-end c =
    rw c.from_residual.ensures (stops (string_unshown _ _ _ c.string_end.ensures c.in_err-end.was))

pub overflow_add-start : goal.overflow_add-start
overflow_add-start c =
    let t = string_ends _ _ _ c.string_end.ensures _ c.in_ok-end.was in omega (arith, t.1, t.2)

pub slice_bounds-s-count : goal.slice_bounds-s-count
slice_bounds-s-count c =
    (string_ends _ _ _ c.string_end.ensures _ c.in_ok-end.was).1

pub slice_bounds-s-start : goal.slice_bounds-s-start
slice_bounds-s-start c =
    (string_ends _ _ _ c.string_end.ensures _ c.in_ok-end.was).1

pub slice_bounds-s-end : goal.slice_bounds-s-end
slice_bounds-s-end c =
    (string_ends _ _ _ c.string_end.ensures _ c.in_ok-end.was).2

pub returns-then-s-gt-MAX_STRING : goal.returns-then-s-gt-MAX_STRING
returns-then-s-gt-MAX_STRING c =
    let t = string_ends _ _ _ c.string_end.ensures _ c.in_ok-end.was in
    stops (long_unshown _ _ _ c.string_end.ensures _ c.in_ok-end.was
    (omega (arith, c.if-s-gt-MAX_STRING.true, part_length c.args.f.now _ _ t.1 t.2)))

pub write_value-close-requires : goal.write_value-close-requires
write_value-close-requires c =
    let t = string_ends _ _ _ c.string_end.ensures _ c.in_ok-end.was in
    value_fits c.args.out.now _ _ c.requires (omega (arith, c.if-s-gt-MAX_STRING.false, part_length c.args.f.now _ _ t.1 t.2))

pub bounds-out-close : goal.bounds-out-close
bounds-out-close c =
    let t = string_ends _ _ _ c.string_end.ensures _ c.in_ok-end.was in
    (close_room c.args.out.now _ _ c.requires
    (omega (arith, c.if-s-gt-MAX_STRING.false, part_length c.args.f.now _ _ t.1 t.2)) _ _ c.write_value-close.ensures).0

pub overflow_add-result : goal.overflow_add-result
overflow_add-result c =
    let t = string_ends _ _ _ c.string_end.ensures _ c.in_ok-end.was in
    omega (
      arith,
      (close_room c.args.out.now _ _ c.requires
          (omega (arith, c.if-s-gt-MAX_STRING.false, part_length c.args.f.now _ _ t.1 t.2)) _ _ c.write_value-close.ensures).1,
    )

pub shape_of-out : goal.shape_of-out
shape_of-out c =
    let t = string_ends _ _ _ c.string_end.ensures _ c.in_ok-end.was in
    closed_long c.args.out.now _ _ c.requires
    (omega (arith, c.if-s-gt-MAX_STRING.false, part_length c.args.f.now _ _ t.1 t.2)) _ _ c.write_value-close.ensures

pub returns : goal.returns
returns c =
    let t = string_ends _ _ _ c.string_end.ensures _ c.in_ok-end.was in
    string_puts c.args.out.now _ _ c.requires
    (omega (arith, c.if-s-gt-MAX_STRING.false, part_length c.args.f.now _ _ t.1 t.2)) _ _ c.write_value-close.ensures _ _ _
    (string_shown _ _ _ c.string_end.ensures _ c.in_ok-end.was
    (omega (arith, c.if-s-gt-MAX_STRING.false, part_length c.args.f.now _ _ t.1 t.2))) t.2
