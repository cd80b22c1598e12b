use native.Mathlib.Omega.{arith}
use mathlib.Core.Path.{sym}
use Rattle.table_place.specs.Place.{str_in}
use Rattle.table_place.proofs.Cursor.{str_grows}
use Rattle.verdict_filter.proofs.hash_at.Goals as goal

pub overflow_add-a : goal.overflow_add-a
overflow_add-a c = omega (arith, str_grows c.args.f.now c.args.at)

pub slice_bounds-mix-count : goal.slice_bounds-mix-count
slice_bounds-mix-count c = omega (arith, str_grows c.args.f.now c.args.at)

pub slice_bounds-mix-start : goal.slice_bounds-mix-start
slice_bounds-mix-start c = omega (arith, str_grows c.args.f.now c.args.at)

pub returns : goal.returns
unfolding str_in
returns c = rw (sym c.str_end-e.ensures) c.mix.ensures
