use native.Mathlib.Omega.{arith}
use lib.ListN.{length}
use Rattle.cli_readable.proofs.Streaming.{rest_long, run_advances}
use Rattle.cli_readable.proofs.logs.print_lines.Goals as goal

pub loop-from-init : goal.loop-from-init
loop-from-init c = (c.requires, omega arith)

pub overflow_sub-number : goal.overflow_sub-number
overflow_sub-number c = omega (arith, c.loop-from.invariant.0)

pub overflow_add-from : goal.overflow_add-from
overflow_add-from c =
    omega (
      arith,
      c.loop-from-test.true,
      c.print_run-run.ensures.inside,
      rest_long c.args.text.now c.loop-from.from,
    )

pub overflow_add-number : goal.overflow_add-number
overflow_add-number c =
    omega (arith, c.loop-from.invariant.0, c.print_run-run.ensures.few)

pub slice_bounds-refuse-count : goal.slice_bounds-refuse-count
slice_bounds-refuse-count c =
    omega (
      arith,
      c.loop-from-test.true,
      c.print_run-run.ensures.inside,
      rest_long c.args.text.now c.loop-from.from,
    )

pub slice_bounds-refuse-start : goal.slice_bounds-refuse-start
slice_bounds-refuse-start c =
    omega (
      arith,
      c.loop-from-test.true,
      c.print_run-run.ensures.inside,
      rest_long c.args.text.now c.loop-from.from,
    )

pub loop-from-smaller : goal.loop-from-smaller
loop-from-smaller c =
    omega (
      arith,
      c.loop-from-test.true,
      c.print_run-run.ensures.inside,
      rest_long c.args.text.now c.loop-from.from,
      run_advances _ c.print_run-run.result c.loop-from.from (length c.args.text.now)
          c.loop-from.number c.print_run-run.ensures
          (rest_long c.args.text.now c.loop-from.from) c.loop-from-test.true c.if-run-from.false,
    )

pub loop-from-preserved : goal.loop-from-preserved
loop-from-preserved c = (
  omega (arith, c.loop-from.invariant.0, c.print_run-run.ensures.few),
  omega (
    arith,
    c.loop-from-test.true,
    c.print_run-run.ensures.inside,
    rest_long c.args.text.now c.loop-from.from,
  ),
)

pub returns : goal.returns
returns c = c.loop-from.invariant.0
