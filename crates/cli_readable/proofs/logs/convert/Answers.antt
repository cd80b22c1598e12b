use native.Mathlib.Omega.{arith}
use mathlib.Core.Path.{sym}
use lib.Seq.{length-take-le}
use Rattle.cli_readable.proofs.Streaming.{whole_inside}
use Rattle.std.proofs.Common.{rules}
use Rattle.cli_readable.proofs.logs.convert.Goals as goal

pub loop-parts-init : goal.loop-parts-init
loop-parts-init c = (omega arith, omega arith, omega arith, search rules)

pub slice_bounds-more-end : goal.slice_bounds-more-end
slice_bounds-more-end c = sym c.loop-parts.invariant.3

pub more-got-requires : goal.more-got-requires
more-got-requires c =
    (c.loop-parts.invariant.0, omega (arith, c.loop-parts.invariant.1, c.loop-parts.invariant.3))

pub slice_bounds-buf-end-in-loop-parts : goal.slice_bounds-buf-end-in-loop-parts
slice_bounds-buf-end-in-loop-parts c =
    omega (arith, whole_inside _ _ _ c.more-got.ensures.prefix_len c.whole_length-from.ensures, c.more-got.ensures.prefix_len.0, c.loop-parts.invariant.3)

pub slice_bounds-print_lines-end : goal.slice_bounds-print_lines-end
slice_bounds-print_lines-end c =
    sym (length-take-le _ _ (omega (arith, whole_inside _ _ _ c.more-got.ensures.prefix_len c.whole_length-from.ensures, c.more-got.ensures.prefix_len)))

pub print_lines-requires : goal.print_lines-requires
print_lines-requires c =
    c.loop-parts.invariant.2

pub overflow_sub-to : goal.overflow_sub-to
overflow_sub-to c =
    whole_inside _ _ _ c.more-got.ensures.prefix_len c.whole_length-from.ensures

pub slice_bounds-refuse-count : goal.slice_bounds-refuse-count
slice_bounds-refuse-count c =
    whole_inside _ _ _ c.more-got.ensures.prefix_len c.whole_length-from.ensures

pub slice_bounds-refuse-start : goal.slice_bounds-refuse-start
slice_bounds-refuse-start c =
    whole_inside _ _ _ c.more-got.ensures.prefix_len c.whole_length-from.ensures

pub loop-parts-preserved : goal.loop-parts-preserved
loop-parts-preserved c = (
  whole_inside _ _ _ c.more-got.ensures.prefix_len c.whole_length-from.ensures,
  omega (arith, c.more-got.ensures.prefix_len.0, c.loop-parts.invariant.3),
  c.in-Some-print_lines.ensures,
  omega (arith, c.loop-parts.invariant.3),
)
