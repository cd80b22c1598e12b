use native.Mathlib.Omega.{arith}
use mathlib.Core.Path.{sym, ◌∙◌}
use borrow.Author.Tests.{ne_eqb}
use Rattle.table_place.specs.Place.{str_end}
use Rattle.table_place.proofs.Cursor.{str_grows}
use Rattle.verdict_compare.proofs.Keys.{star_other, star_one}
use Rattle.verdict_compare.proofs.key.is_star.Goals as goal

pub bounds-f-at : goal.bounds-f-at
bounds-f-at c = omega (arith, str_grows c.args.f.now c.args.at)

pub bounds-f-at-then-f-at-eq1 : goal.bounds-f-at-then-f-at-eq1
unfolding str_end
bounds-f-at-then-f-at-eq1 c = omega arith

pub returns-then-f-at-eq1 : goal.returns-then-f-at-eq1
returns-then-f-at-eq1 c = sym (star_one _ _ c.requires c.if-f-at-eq1.true)

pub returns-else-f-at-eq1 : goal.returns-else-f-at-eq1
returns-else-f-at-eq1 c = ne_eqb _ 1 c.if-f-at-eq1.false ∙ sym (star_other _ _ c.requires c.if-f-at-eq1.false)
