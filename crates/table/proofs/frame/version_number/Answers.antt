-- `version_number` equals its definition.
use native.Mathlib.Omega.{arith}
use mathlib.Core.Path.{refl}
use mathlib.Core.List.{[]}
use Rattle.text.proofs.Frames.{string_ends}
use Rattle.table.proofs.Versions.{version_short, version_long, version_four, version_graded, reading}
use Rattle.std.proofs.Common.{rules}
use Rattle.table.proofs.frame.version_number.Goals as goal

pub returns-in_default : goal.returns-in_default
returns-in_default c =
    record { value = λ b w. version_short _ c.requires _ c.string_end.ensures b _ w c.in_default.is; f_value = λ x. absurd (omega arith) }

pub overflow_sub-f : goal.overflow_sub-f
overflow_sub-f c =
    (string_ends _ _ _ c.string_end.ensures _ c.in-Some.is).2

pub returns-then-f-end-ne8 : goal.returns-then-f-end-ne8
returns-then-f-end-ne8 c =
    record {
      value = λ b w. version_long _ c.requires _ c.string_end.ensures b _ w _
          c.in-Some.is c.if-f-end-ne8.true;
      f_value = λ x. absurd (omega arith);
    }

pub returns-then-is_out_of_order : goal.returns-then-is_out_of_order
returns-then-is_out_of_order c =
    record {
      value = λ b w. version_four _ c.requires _ c.string_end.ensures b _ w _ c.in-Some.is
          c.if-f-end-ne8.false _ c.is_out_of_order.ensures c.if-is_out_of_order.true;
      f_value = λ x. absurd (omega arith);
    }

pub slice_bounds-version-count : goal.slice_bounds-version-count
slice_bounds-version-count c =
    (string_ends _ _ _ c.string_end.ensures _ c.in-Some.is).1

pub slice_bounds-version-start : goal.slice_bounds-version-start
slice_bounds-version-start c =
    (string_ends _ _ _ c.string_end.ensures _ c.in-Some.is).1

pub slice_bounds-version-end : goal.slice_bounds-version-end
slice_bounds-version-end c =
    (string_ends _ _ _ c.string_end.ensures _ c.in-Some.is).2

pub returns : goal.returns
returns c =
    record {
      value = λ b w. version_graded _ c.requires _ c.string_end.ensures b _ w _ c.in-Some.is
          c.if-f-end-ne8.false _ c.is_out_of_order.ensures c.if-is_out_of_order.false _ _ _
          c.number.ensures c.is_unsized-five.ensures c.all_print-six.ensures;
      f_value = λ x. (
        _,
        _,
        reading _ c.requires _ c.string_end.ensures
            (record { kind = c.args.last; groups = []; members = []; rules = [] }) _ refl _ c.in-Some.is
            c.if-f-end-ne8.false _ c.is_out_of_order.ensures,
      );
    }
