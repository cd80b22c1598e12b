use native.Mathlib.Omega.{arith}
use mathlib.Core.Path.{◌∙◌}
use mathlib.Core.Bool.{true}
use Prim.Native.Nat.{◌-◌}
use Rattle.readable_log.proofs.Running.{running_start, running_test, behind_long, back_long, running_stop, running_fits, running_past, running_turn, running_done}
use Rattle.readable_log.proofs.convert.Goals as goal

pub loop-next-init : goal.loop-next-init
loop-next-init c = running_start _ _ _ _

pub overflow_sub-out : goal.overflow_sub-out
overflow_sub-out c = c.loop-next.invariant.room

pub slice_bounds-convert_line-count : goal.slice_bounds-convert_line-count
slice_bounds-convert_line-count c = c.loop-next.invariant.room

pub slice_bounds-convert_line-start : goal.slice_bounds-convert_line-start
slice_bounds-convert_line-start c = c.loop-next.invariant.room

pub convert_line-line-requires : goal.convert_line-line-requires
convert_line-line-requires c =
    let t = running_test _ _ _ _ _ _ _ _ c.loop-next.invariant c.loop-next-test.true in
    (t.0, omega (arith, t.2, behind_long _ _ _ _ _ _ _ _ c.loop-next.invariant))

pub shape_of-out-in_default : goal.shape_of-out-in_default
shape_of-out-in_default c =
    back_long _ _ _ _ _ _ _ _ c.loop-next.invariant c.convert_line-line.new.out
    c.convert_line-line.auto.out ∙ c.loop-next.invariant.long

pub returns-in_default : goal.returns-in_default
returns-in_default c =
    running_stop _ _ _ _ _ _ _ _ c.loop-next.invariant c.convert_line-line.new.out _
    c.convert_line-line.ensures c.in_default.is
    (back_long _ _ _ _ _ _ _ _ c.loop-next.invariant c.convert_line-line.new.out c.convert_line-line.auto.out)

pub overflow_add-count : goal.overflow_add-count
overflow_add-count c =
    let t = running_test _ _ _ _ _ _ _ _ c.loop-next.invariant c.loop-next-test.true in omega (arith, t.1)

pub overflow_add-made : goal.overflow_add-made
overflow_add-made c =
    omega (arith, running_fits _ _ _ _ _ _ _ _ c.loop-next.invariant _ _ c.convert_line-line.ensures _ c.in-Some.is)

pub loop-next-smaller : goal.loop-next-smaller
loop-next-smaller c =
    let t = running_test _ _ _ _ _ _ _ _ c.loop-next.invariant c.loop-next-test.true in
    omega (arith, t.0, (running_past _ _ _ _ _ _ _ _ c.loop-next.invariant _ _ c.convert_line-line.ensures _ c.in-Some.is).0)

pub loop-next-preserved : goal.loop-next-preserved
loop-next-preserved c =
    let t = running_test _ _ _ _ _ _ _ _ c.loop-next.invariant c.loop-next-test.true in
    running_turn _ _ _ _ _ _ _ _ c.loop-next.invariant c.convert_line-line.new.out _
    c.convert_line-line.ensures _ c.in-Some.is t.1

pub shape_of-out : goal.shape_of-out
shape_of-out c = c.loop-next.invariant.long

pub returns : goal.returns
returns c = running_done _ _ _ _ _ _ _ _ c.loop-next.invariant c.loop-next-test.false
