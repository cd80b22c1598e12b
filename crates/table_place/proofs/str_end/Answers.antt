use native.Mathlib.Omega.{arith}
use mathlib.Core.Path.{refl}
use Rattle.table_place.specs.Place.{str_end}
use Rattle.table_place.proofs.str_end.Goals as goal

pub overflow_add-result : goal.overflow_add-result
unfolding str_end
overflow_add-result c = omega arith

pub bounds-f-at : goal.bounds-f-at
unfolding str_end
bounds-f-at c = omega arith

pub overflow_cast-result : goal.overflow_cast-result
unfolding str_end
overflow_cast-result c = omega (arith, c.type_inv.f c.args.at)

pub overflow_add-result-2 : goal.overflow_add-result-2
unfolding str_end
overflow_add-result-2 c = omega arith

pub returns : goal.returns
unfolding str_end
returns c = refl
