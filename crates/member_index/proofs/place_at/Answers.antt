-- `place_at` equals its definition.
use native.Mathlib.Omega.{arith}
use mathlib.Core.Path.{sym}
use Rattle.table_place.specs.Place.{str_in}
use Rattle.table_place.proofs.Cursor.{str_grows}
use Rattle.member_index.proofs.place_at.Goals as goal

pub overflow_add-start : goal.overflow_add-start
overflow_add-start c = omega (arith, str_grows c.args.f.now c.args.at)

pub slice_bounds-place-count : goal.slice_bounds-place-count
slice_bounds-place-count c = omega (arith, str_grows c.args.f.now c.args.at)

pub slice_bounds-place-start : goal.slice_bounds-place-start
slice_bounds-place-start c = omega (arith, str_grows c.args.f.now c.args.at)

pub returns : goal.returns
unfolding str_in
returns c = rw (sym c.str_end-end.ensures) c.place.ensures
