-- `take_member` equals its definition.
use native.Mathlib.Omega.{arith}
use mathlib.Core.Path.{refl, sym, ◌∙◌}
use Rattle.std.proofs.lemmas.Result.{err_from_is_err_and}
use Rattle.text.proofs.Frames.{string_ends}
use Rattle.table_keep.proofs.Members.{place_same, member_short, member_half, member_long, reading, member_four, judging, member_graded, member_room, set_room, member_kept}
use Rattle.table_keep.proofs.take_member.Goals as goal

pub returns-in_default-clause-value : goal.returns-in_default-clause-value
returns-in_default-clause-value c =
    λ b w g m. member_short _ c.requires.ready.kind b c.string_end.ensures c.in_default.is

pub returns-in_default-string_end-clause-value : goal.returns-in_default-string_end-clause-value
returns-in_default-string_end-clause-value c =
    λ b w g m. member_half _ c.requires.ready.kind b (string_ends _ _ _ c.string_end.ensures _ c.in-Some.is) c.string_end-2.ensures c.in_default-string_end.is

pub returns-then-end-f-clause-value : goal.returns-then-end-f-clause-value
returns-then-end-f-clause-value c =
    λ b w g m. member_long _ c.requires.ready.kind b (string_ends _ _ _ c.string_end.ensures _ c.in-Some.is) (string_ends _ _ _ c.string_end-2.ensures _ c.in-Some-string_end.is) c.if-end-f.true

pub returns-then-is_out_of_order-clause-value : goal.returns-then-is_out_of_order-clause-value
returns-then-is_out_of_order-clause-value c =
    λ b w g m. member_four (reading c.requires.ready c.args.row.room (string_ends _ _ _ c.string_end.ensures _ c.in-Some.is) (string_ends _ _ _ c.string_end-2.ensures _ c.in-Some-string_end.is) c.if-end-f.false) (sym c.is_out_of_order.ensures ∙ c.if-is_out_of_order.true) b w

pub overflow_add-from : goal.overflow_add-from
overflow_add-from c =
    let h = (string_ends _ _ _ c.string_end.ensures _ c.in-Some.is) in omega (arith, h.2)

pub slice_bounds-group-count : goal.slice_bounds-group-count
slice_bounds-group-count c =
    (string_ends _ _ _ c.string_end.ensures _ c.in-Some.is).1

pub slice_bounds-group-start : goal.slice_bounds-group-start
slice_bounds-group-start c =
    (string_ends _ _ _ c.string_end.ensures _ c.in-Some.is).1

pub slice_bounds-group-end : goal.slice_bounds-group-end
slice_bounds-group-end c =
    (string_ends _ _ _ c.string_end.ensures _ c.in-Some.is).2

pub slice_bounds-user-count : goal.slice_bounds-user-count
slice_bounds-user-count c =
    (string_ends _ _ _ c.string_end-2.ensures _ c.in-Some-string_end.is).1

pub slice_bounds-user-start : goal.slice_bounds-user-start
slice_bounds-user-start c =
    (string_ends _ _ _ c.string_end-2.ensures _ c.in-Some-string_end.is).1

pub returns-in_err-number-clause-value : goal.returns-in_err-number-clause-value
returns-in_err-number-clause-value c =
    let p = err_from_is_err_and c.from_residual.result c.from_residual.ensures.1 in
    λ b w g m. rw (p.1, p.2) (member_graded (judging
    (reading c.requires.ready c.args.row.room (string_ends _ _ _ c.string_end.ensures _ c.in-Some.is) (string_ends _ _ _ c.string_end-2.ensures _ c.in-Some-string_end.is) c.if-end-f.false)
    _ c.is_out_of_order.ensures c.if-is_out_of_order.false (place_same _ _ _ _ _ _ c.requires.of_row c.number_of-g.ensures) c.hash.ensures c.find-s.ensures
    c.is_unsized.ensures c.is_unsized-2.ensures c.all_print.ensures c.all_print-2.ensures c.in_err-number.ensures) b w g m)

pub overflow_add-users : goal.overflow_add-users
overflow_add-users c =
    let h = (string_ends _ _ _ c.string_end-2.ensures _ c.in-Some-string_end.is) in omega (arith, h.1, h.2, c.args.row.room)

pub overflow_cast-users : goal.overflow_cast-users
overflow_cast-users c =
    let h = (string_ends _ _ _ c.string_end-2.ensures _ c.in-Some-string_end.is) in omega (arith, h.1, h.2, c.args.row.room)

pub offset_bounds-users-n : goal.offset_bounds-users-n
offset_bounds-users-n c =
    omega (
      arith,
      member_room (judging
          (reading c.requires.ready c.args.row.room (string_ends _ _ _ c.string_end.ensures _ c.in-Some.is) (string_ends _ _ _ c.string_end-2.ensures _ c.in-Some-string_end.is) c.if-end-f.false)
          _ c.is_out_of_order.ensures c.if-is_out_of_order.false (place_same _ _ _ _ _ _ c.requires.of_row c.number_of-g.ensures) c.hash.ensures c.find-s.ensures
          c.is_unsized.ensures c.is_unsized-2.ensures c.all_print.ensures c.all_print-2.ensures c.in_ok-number.ensures) refl,
    )

pub bounds-users-n : goal.bounds-users-n
bounds-users-n c =
    member_room (judging
    (reading c.requires.ready c.args.row.room (string_ends _ _ _ c.string_end.ensures _ c.in-Some.is) (string_ends _ _ _ c.string_end-2.ensures _ c.in-Some-string_end.is) c.if-end-f.false)
    _ c.is_out_of_order.ensures c.if-is_out_of_order.false (place_same _ _ _ _ _ _ c.requires.of_row c.number_of-g.ensures) c.hash.ensures c.find-s.ensures
    c.is_unsized.ensures c.is_unsized-2.ensures c.all_print.ensures c.all_print-2.ensures c.in_ok-number.ensures) refl

pub bounds-owners-n : goal.bounds-owners-n
bounds-owners-n c =
    member_room (judging
    (reading c.requires.ready c.args.row.room (string_ends _ _ _ c.string_end.ensures _ c.in-Some.is) (string_ends _ _ _ c.string_end-2.ensures _ c.in-Some-string_end.is) c.if-end-f.false)
    _ c.is_out_of_order.ensures c.if-is_out_of_order.false (place_same _ _ _ _ _ _ c.requires.of_row c.number_of-g.ensures) c.hash.ensures c.find-s.ensures
    c.is_unsized.ensures c.is_unsized-2.ensures c.all_print.ensures c.all_print-2.ensures c.in_ok-number.ensures) refl

pub add-requires : goal.add-requires
add-requires c =
    let r = (string_ends _ _ _ c.string_end-2.ensures _ c.in-Some-string_end.is) in
    let h = set_room (judging
    (reading c.requires.ready c.args.row.room (string_ends _ _ _ c.string_end.ensures _ c.in-Some.is) (string_ends _ _ _ c.string_end-2.ensures _ c.in-Some-string_end.is) c.if-end-f.false)
    _ c.is_out_of_order.ensures c.if-is_out_of_order.false (place_same _ _ _ _ _ _ c.requires.of_row c.number_of-g.ensures) c.hash.ensures c.find-s.ensures
    c.is_unsized.ensures c.is_unsized-2.ensures c.all_print.ensures c.all_print-2.ensures c.in_ok-number.ensures) refl in (
      h.0,
      h.1,
      omega arith,
      omega arith,
      h.2,
      omega (arith, r.1, r.2, c.args.row.room),
      omega (arith, r.1, r.2, c.args.row.room),
    )

pub returns-clause-value : goal.returns-clause-value
returns-clause-value c =
    λ b w g m. member_graded (judging
    (reading c.requires.ready c.args.row.room (string_ends _ _ _ c.string_end.ensures _ c.in-Some.is) (string_ends _ _ _ c.string_end-2.ensures _ c.in-Some-string_end.is) c.if-end-f.false)
    _ c.is_out_of_order.ensures c.if-is_out_of_order.false (place_same _ _ _ _ _ _ c.requires.of_row c.number_of-g.ensures) c.hash.ensures c.find-s.ensures
    c.is_unsized.ensures c.is_unsized-2.ensures c.all_print.ensures c.all_print-2.ensures c.in_ok-number.ensures) b w g m

pub returns-clause-member_kept : goal.returns-clause-member_kept
returns-clause-member_kept c =
    λ x. member_kept (judging
    (reading c.requires.ready c.args.row.room (string_ends _ _ _ c.string_end.ensures _ c.in-Some.is) (string_ends _ _ _ c.string_end-2.ensures _ c.in-Some-string_end.is) c.if-end-f.false)
    _ c.is_out_of_order.ensures c.if-is_out_of_order.false (place_same _ _ _ _ _ _ c.requires.of_row c.number_of-g.ensures) c.hash.ensures c.find-s.ensures
    c.is_unsized.ensures c.is_unsized-2.ensures c.all_print.ensures c.all_print-2.ensures c.in_ok-number.ensures) refl _ c.add.ensures
