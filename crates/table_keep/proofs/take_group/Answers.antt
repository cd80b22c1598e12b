-- `take_group` equals its definition.
use native.Mathlib.Omega.{arith}
use mathlib.Core.Path.{refl}
use mathlib.Core.List.{[]}
use Prim.Native.Nat.{◌<◌}
use Rattle.std.proofs.lemmas.Result.{err_from_is_err_and}
use Rattle.limits.specs.Limits.{max_groups}
use Rattle.text.specs.Refusal.{clear}
use Rattle.text.proofs.Frames.{string_ends}
use Rattle.table_keep.proofs.Groups.{below, group_short, group_long, group_four, group_graded, group_kept}
use Rattle.table_keep.proofs.take_group.Goals as goal

pub returns-in_default-clause-value : goal.returns-in_default-clause-value
returns-in_default-clause-value c = λ b w g. group_short _ c.requires.kind _ c.string_end.ensures b _ w c.in_default.is

pub returns-then-end-f-clause-value : goal.returns-then-end-f-clause-value
returns-then-end-f-clause-value c = λ b w g. group_long _ c.requires.kind _ c.string_end.ensures b _ w _ c.in-Some.is c.if-end-f.true

pub returns-then-is_out_of_order-clause-value : goal.returns-then-is_out_of_order-clause-value
returns-then-is_out_of_order-clause-value c =
    λ b w g. group_four _ c.requires.kind _ c.string_end.ensures b _ w _
    c.in-Some.is c.if-end-f.false _ c.is_out_of_order.ensures c.if-is_out_of_order.true

pub slice_bounds-name-count : goal.slice_bounds-name-count
slice_bounds-name-count c = (string_ends _ _ _ c.string_end.ensures _ c.in-Some.is).1

pub slice_bounds-name-start : goal.slice_bounds-name-start
slice_bounds-name-start c = (string_ends _ _ _ c.string_end.ensures _ c.in-Some.is).1

pub returns-in_err-number-clause-value : goal.returns-in_err-number-clause-value
returns-in_err-number-clause-value c =
    let p = err_from_is_err_and c.from_residual.result c.from_residual.ensures.1 in
    λ b w g. rw (p.1, p.2)
    (group_graded _ c.requires.kind _ c.string_end.ensures b _ w _ c.in-Some.is c.if-end-f.false _ c.is_out_of_order.ensures
    c.if-is_out_of_order.false _ _ _ g _ c.requires.named _ _ _ _ c.in_err-number.ensures c.is_unsized.ensures
    c.all_print-six.ensures c.find-s.ensures)

pub insert-requires : goal.insert-requires
insert-requires c =
    let h = string_ends _ _ _ c.string_end.ensures _ c.in-Some.is in
    let l : c.args.n < max_groups = below clear max_groups c.args.n _ _ _ _ _ _ c.is_unsized.ensures c.in_ok-number.ensures refl in
    (c.find-s.ensures.placed.fits, omega arith, omega (arith, c.args.row.room), omega (arith, h.1, h.2, c.args.row.room))

pub bounds-starts-n : goal.bounds-starts-n
bounds-starts-n c = below clear max_groups c.args.n _ _ _ _ _ _ c.is_unsized.ensures c.in_ok-number.ensures refl

pub returns-clause-value : goal.returns-clause-value
returns-clause-value c =
    λ b w g. group_graded _ c.requires.kind _ c.string_end.ensures b _ w _ c.in-Some.is c.if-end-f.false _ c.is_out_of_order.ensures
    c.if-is_out_of_order.false _ _ _ g _ c.requires.named _ _ _ _ c.in_ok-number.ensures c.is_unsized.ensures
    c.all_print-six.ensures c.find-s.ensures

pub returns-clause-group_kept : goal.returns-clause-group_kept
returns-clause-group_kept c =
    λ x. group_kept _ c.requires.kind _ c.string_end.ensures
    (record { kind = c.args.row.last; groups = []; members = []; rules = [] }) _ refl _ c.in-Some.is
    c.if-end-f.false _ c.is_out_of_order.ensures _ _ _
    (below clear max_groups c.args.n _ _ _ _ _ _ c.is_unsized.ensures c.in_ok-number.ensures refl) c.args.row.room c.args.names.now.sorted
    (omega arith) c.requires.named _ _ _ _ c.in_ok-number.ensures refl c.find-s.ensures _ c.insert.ensures
