use native.Mathlib.Omega.{arith}
use mathlib.Core.Path.{sym}
use Rattle.table_place.specs.Place.{str_in}
use Rattle.table_place.proofs.Cursor.{str_grows}
use Rattle.verdict_compare.proofs.key.same_at.Goals as goal

pub overflow_add-a : goal.overflow_add-a
overflow_add-a c = omega (arith, str_grows c.args.f.now c.args.p)

pub overflow_add-b : goal.overflow_add-b
overflow_add-b c = omega (arith, str_grows c.args.g.now c.args.q)

pub slice_bounds-is_same-count : goal.slice_bounds-is_same-count
slice_bounds-is_same-count c =
    omega (arith, str_grows c.args.f.now c.args.p)

pub slice_bounds-is_same-start : goal.slice_bounds-is_same-start
slice_bounds-is_same-start c =
    omega (arith, str_grows c.args.f.now c.args.p)

pub slice_bounds-is_same-count-2 : goal.slice_bounds-is_same-count-2
slice_bounds-is_same-count-2 c =
    omega (arith, str_grows c.args.g.now c.args.q)

pub slice_bounds-is_same-start-2 : goal.slice_bounds-is_same-start-2
slice_bounds-is_same-start-2 c =
    omega (arith, str_grows c.args.g.now c.args.q)

pub returns : goal.returns
unfolding str_in
returns c =
    rw (sym c.str_end-d.ensures, sym c.str_end-e.ensures) c.is_same.ensures
