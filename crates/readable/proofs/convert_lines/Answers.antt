use native.Mathlib.Omega.{arith}
use mathlib.Core.Bool.{false}
use mathlib.Core.Path.{sym}
use Prim.Native.Nat.{◌-◌}
use lib.ListN.{length-take}
use lib.Seq.{length-take-le}
use Rattle.readable_lines.proofs.Stored.{laid_to, laid_not}
use Rattle.readable.proofs.Laying.{laying_start, laying_long, laying_stop, laying_full, laying_turn, laying_done}
use Rattle.std.proofs.Common.{rules}
use Rattle.readable.proofs.convert_lines.Goals as goal

pub loop-from-init : goal.loop-from-init
loop-from-init c = (laying_start _ _ _, search rules)

pub convert_line-line-requires : goal.convert_line-line-requires
convert_line-line-requires c =
    (c.loop-from-test.true, c.requires, omega (arith, c.loop-from.invariant.1))

pub shape_of-out-in_default : goal.shape_of-out-in_default
shape_of-out-in_default c =
    laying_long _ _ _ _ _ _ _ c.loop-from.invariant.0

pub returns-in_default : goal.returns-in_default
returns-in_default c =
    let u = laid_not c.convert_line-line.ensures c.in_default.is in
    laying_stop _ _ _ _ _ _ _ c.loop-from.invariant.0 u.0 u.1 u.2 u.3

pub overflow_sub-out : goal.overflow_sub-out
overflow_sub-out c =
    omega (arith, laying_long _ _ _ _ _ _ _ c.loop-from.invariant.0, c.loop-from.invariant.0.fits)

pub shape_of-out-then-out-at : goal.shape_of-out-then-out-at
shape_of-out-then-out-at c =
    laying_long _ _ _ _ _ _ _ c.loop-from.invariant.0

pub returns-then-out-at : goal.returns-then-out-at
returns-then-out-at c =
    let u = laid_to c.convert_line-line.ensures c.in-Some.is in
    laying_full _ _ _ _ _ _ _ c.loop-from.invariant.0 u.0 u.1 _ _ u.2 u.3 _ _ u.4 c.if-out-at.true

pub slice_bounds-piece-end : goal.slice_bounds-piece-end
slice_bounds-piece-end c =
    let u = laid_to c.convert_line-line.ensures c.in-Some.is in omega (arith, u.5, c.loop-from.invariant.1)

pub slice_bounds-copy-end : goal.slice_bounds-copy-end
slice_bounds-copy-end c =
    let u = laid_to c.convert_line-line.ensures c.in-Some.is in sym (length-take-le _ _ (omega (arith, u.5, c.loop-from.invariant.1)))

pub copy-requires : goal.copy-requires
copy-requires c =
    simp length-take (omega (arith, c.if-out-at.false, laying_long _ _ _ _ _ _ _ c.loop-from.invariant.0, c.loop-from.invariant.0.fits))

pub overflow_add-at : goal.overflow_add-at
overflow_add-at c =
    omega (arith, c.if-out-at.false, laying_long _ _ _ _ _ _ _ c.loop-from.invariant.0, c.loop-from.invariant.0.fits)

pub overflow_add-number : goal.overflow_add-number
overflow_add-number c =
    let u = laid_to c.convert_line-line.ensures c.in-Some.is in
    omega (arith, c.loop-from.invariant.0.counts, c.loop-from-test.true)

pub loop-from-smaller : goal.loop-from-smaller
loop-from-smaller c =
    let u = laid_to c.convert_line-line.ensures c.in-Some.is in omega (arith, u.6, u.7)

pub loop-from-preserved : goal.loop-from-preserved
loop-from-preserved c =
    let u = laid_to c.convert_line-line.ensures c.in-Some.is in (
      laying_turn _ _ _ _ _ _ _ c.loop-from.invariant.0 u.0 u.1 _ _ u.2 u.3 _ _ u.4 c.if-out-at.false
          u.6 u.7 _ c.copy.ensures,
      search rules,
    )

pub shape_of-out : goal.shape_of-out
shape_of-out c = laying_long _ _ _ _ _ _ _ c.loop-from.invariant.0

pub returns : goal.returns
returns c = laying_done _ _ _ _ _ _ _ c.loop-from.invariant.0 c.loop-from-test.false
