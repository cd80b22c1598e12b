-- `is_at` equals its definition.
use native.Mathlib.Omega.{arith}
use Rattle.table_place.specs.Place.{str_end, str_in}
use Rattle.table_rows.proofs.Strings.{room}
use Rattle.table_rows.proofs.is_at.Goals as goal

pub bounds-f-at : goal.bounds-f-at
bounds-f-at c = (room _ _ c.requires).0

pub overflow_cast-n : goal.overflow_cast-n
overflow_cast-n c = omega (arith, c.type_inv.f c.args.at)

pub overflow_add-start : goal.overflow_add-start
overflow_add-start c = omega (arith, room _ _ c.requires)

pub overflow_add-end : goal.overflow_add-end
overflow_add-end c = omega (arith, room _ _ c.requires)

pub slice_bounds-is_same-end : goal.slice_bounds-is_same-end
slice_bounds-is_same-end c = omega (arith, room _ _ c.requires)

pub returns : goal.returns
unfolding str_in str_end
returns c = c.is_same.ensures
