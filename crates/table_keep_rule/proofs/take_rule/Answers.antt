-- `take_rule` equals its definition.
use native.Mathlib.Omega.{arith}
use mathlib.Core.Path.{refl, sym, ◌∙◌}
use Rattle.std.proofs.lemmas.Result.{err_from_is_err_and}
use Rattle.table.proofs.Numbers.{least_merged}
use Rattle.table.proofs.Rules.{rule_told}
use Rattle.table_keep_rule.proofs.Rules.{holder_same, rule_short, told_so_far, rule_four, judging, rule_graded, rule_ready, rule_kept}
use Rattle.table_keep_rule.proofs.take_rule.Goals as goal

pub returns-in_default-clause-value : goal.returns-in_default-clause-value
returns-in_default-clause-value c =
    λ b w g d. rule_short _ _ c.read_rule.ensures b c.in_default.is

pub returns-then-is_out_of_order-clause-value : goal.returns-then-is_out_of_order-clause-value
returns-then-is_out_of_order-clause-value c =
    λ b w g d. rule_four (told_so_far c.requires.ready c.args.row.room c.args.groups.starts.now c.args.groups.count (rule_told _ _ c.read_rule.ensures _ c.in-Some.is)) (sym c.is_out_of_order.ensures ∙ c.if-is_out_of_order.true) b w

pub overflow_add-from : goal.overflow_add-from
overflow_add-from c =
    omega (arith, (rule_told _ _ c.read_rule.ensures _ c.in-Some.is).long)

pub overflow_add-then : goal.overflow_add-then
overflow_add-then c =
    omega (arith, (rule_told _ _ c.read_rule.ensures _ c.in-Some.is).long)

pub slice_bounds-subject-count : goal.slice_bounds-subject-count
slice_bounds-subject-count c =
    (rule_told _ _ c.read_rule.ensures _ c.in-Some.is).long.0

pub slice_bounds-subject-start : goal.slice_bounds-subject-start
slice_bounds-subject-start c =
    (rule_told _ _ c.read_rule.ensures _ c.in-Some.is).long.0

pub slice_bounds-subject-end : goal.slice_bounds-subject-end
slice_bounds-subject-end c =
    omega (arith, (rule_told _ _ c.read_rule.ensures _ c.in-Some.is).long)

pub slice_bounds-id-count : goal.slice_bounds-id-count
slice_bounds-id-count c =
    (rule_told _ _ c.read_rule.ensures _ c.in-Some.is).long.1

pub slice_bounds-id-start : goal.slice_bounds-id-start
slice_bounds-id-start c =
    (rule_told _ _ c.read_rule.ensures _ c.in-Some.is).long.1

pub slice_bounds-id-end : goal.slice_bounds-id-end
slice_bounds-id-end c =
    omega (arith, (rule_told _ _ c.read_rule.ensures _ c.in-Some.is).long)

pub slice_bounds-origin-count : goal.slice_bounds-origin-count
slice_bounds-origin-count c =
    (rule_told _ _ c.read_rule.ensures _ c.in-Some.is).long.2

pub slice_bounds-origin-start : goal.slice_bounds-origin-start
slice_bounds-origin-start c =
    (rule_told _ _ c.read_rule.ensures _ c.in-Some.is).long.2

pub slice_bounds-origin-end : goal.slice_bounds-origin-end
slice_bounds-origin-end c =
    (rule_told _ _ c.read_rule.ensures _ c.in-Some.is).long.3

pub bounds-f-3 : goal.bounds-f-3
bounds-f-3 c =
    omega (arith, (rule_told _ _ c.read_rule.ensures _ c.in-Some.is).long)

pub returns-in_err-smaller-clause-value : goal.returns-in_err-smaller-clause-value
returns-in_err-smaller-clause-value c =
    let p = err_from_is_err_and c.from_residual.result c.from_residual.ensures.1 in
    λ b w g d. rw (p.1, p.2) (rule_graded (judging (told_so_far c.requires.ready c.args.row.room c.args.groups.starts.now c.args.groups.count (rule_told _ _ c.read_rule.ensures _ c.in-Some.is)) _
    c.is_out_of_order.ensures c.if-is_out_of_order.false (holder_same _ _ _ _ _ _ _ c.requires.of_row c.holder_of-g.ensures) c.hash.ensures c.find-t.ensures
    c.is_unsized.ensures c.is_unsized-2.ensures c.all_print.ensures c.all_print-2.ensures c.all_print-3.ensures (least_merged _ _ _ _ _ _ _ _ (rule_told _ _ c.read_rule.ensures _ c.in-Some.is).path c.number.ensures c.in_err-smaller.ensures)) b w g d)

pub overflow_cast-n : goal.overflow_cast-n
overflow_cast-n c =
    omega (
      arith,
      (rule_ready (judging (told_so_far c.requires.ready c.args.row.room c.args.groups.starts.now c.args.groups.count (rule_told _ _ c.read_rule.ensures _ c.in-Some.is)) _
          c.is_out_of_order.ensures c.if-is_out_of_order.false (holder_same _ _ _ _ _ _ _ c.requires.of_row c.holder_of-g.ensures) c.hash.ensures c.find-t.ensures
          c.is_unsized.ensures c.is_unsized-2.ensures c.all_print.ensures c.all_print-2.ensures c.all_print-3.ensures (least_merged _ _ _ _ _ _ _ _ (rule_told _ _ c.read_rule.ensures _ c.in-Some.is).path c.number.ensures c.in_ok-smaller.ensures)) refl).3,
    )

pub store-requires : goal.store-requires
store-requires c = (
  (rule_ready (judging (told_so_far c.requires.ready c.args.row.room c.args.groups.starts.now c.args.groups.count (rule_told _ _ c.read_rule.ensures _ c.in-Some.is)) _
      c.is_out_of_order.ensures c.if-is_out_of_order.false (holder_same _ _ _ _ _ _ _ c.requires.of_row c.holder_of-g.ensures) c.hash.ensures c.find-t.ensures
      c.is_unsized.ensures c.is_unsized-2.ensures c.all_print.ensures c.all_print-2.ensures c.all_print-3.ensures (least_merged _ _ _ _ _ _ _ _ (rule_told _ _ c.read_rule.ensures _ c.in-Some.is).path c.number.ensures c.in_ok-smaller.ensures)) refl).3,
  omega (arith, c.args.row.room, (rule_told _ _ c.read_rule.ensures _ c.in-Some.is).long),
)

pub overflow_add-begin : goal.overflow_add-begin
overflow_add-begin c =
    omega (arith, c.args.row.room, (rule_told _ _ c.read_rule.ensures _ c.in-Some.is).long)

pub overflow_add-to : goal.overflow_add-to
overflow_add-to c =
    omega (arith, c.args.row.room, (rule_told _ _ c.read_rule.ensures _ c.in-Some.is).long)

pub add-requires : goal.add-requires
add-requires c =
    let a = (rule_told _ _ c.read_rule.ensures _ c.in-Some.is) in
    let h = rule_ready (judging (told_so_far c.requires.ready c.args.row.room c.args.groups.starts.now c.args.groups.count (rule_told _ _ c.read_rule.ensures _ c.in-Some.is)) _
    c.is_out_of_order.ensures c.if-is_out_of_order.false (holder_same _ _ _ _ _ _ _ c.requires.of_row c.holder_of-g.ensures) c.hash.ensures c.find-t.ensures
    c.is_unsized.ensures c.is_unsized-2.ensures c.all_print.ensures c.all_print-2.ensures c.all_print-3.ensures (least_merged _ _ _ _ _ _ _ _ (rule_told _ _ c.read_rule.ensures _ c.in-Some.is).path c.number.ensures c.in_ok-smaller.ensures)) refl in (
      h.0,
      h.1,
      omega arith,
      omega arith,
      h.2,
      omega (arith, a.long, c.args.row.room),
      omega (arith, a.long, c.args.row.room),
    )

pub returns-clause-value : goal.returns-clause-value
returns-clause-value c =
    λ b w g d. rule_graded (judging (told_so_far c.requires.ready c.args.row.room c.args.groups.starts.now c.args.groups.count (rule_told _ _ c.read_rule.ensures _ c.in-Some.is)) _
    c.is_out_of_order.ensures c.if-is_out_of_order.false (holder_same _ _ _ _ _ _ _ c.requires.of_row c.holder_of-g.ensures) c.hash.ensures c.find-t.ensures
    c.is_unsized.ensures c.is_unsized-2.ensures c.all_print.ensures c.all_print-2.ensures c.all_print-3.ensures (least_merged _ _ _ _ _ _ _ _ (rule_told _ _ c.read_rule.ensures _ c.in-Some.is).path c.number.ensures c.in_ok-smaller.ensures)) b w g d

pub returns-clause-rule_kept : goal.returns-clause-rule_kept
returns-clause-rule_kept c =
    λ x. rule_kept (judging (told_so_far c.requires.ready c.args.row.room c.args.groups.starts.now c.args.groups.count (rule_told _ _ c.read_rule.ensures _ c.in-Some.is)) _
    c.is_out_of_order.ensures c.if-is_out_of_order.false (holder_same _ _ _ _ _ _ _ c.requires.of_row c.holder_of-g.ensures) c.hash.ensures c.find-t.ensures
    c.is_unsized.ensures c.is_unsized-2.ensures c.all_print.ensures c.all_print-2.ensures c.all_print-3.ensures (least_merged _ _ _ _ _ _ _ _ (rule_told _ _ c.read_rule.ensures _ c.in-Some.is).path c.number.ensures c.in_ok-smaller.ensures))
    refl _ _ _ _ _ (c.store.ensures.starts_after, c.store.ensures.holders_after) c.add.ensures
