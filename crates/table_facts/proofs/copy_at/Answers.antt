-- `copy_at` stores the string, or nothing where it does not fit.
use native.Mathlib.Omega.{arith}
use mathlib.Core.Path.{sym}
use Rattle.table_place.specs.Place.{str_end, str_in}
use Rattle.table_rows.proofs.Strings.{room}
use Rattle.table_facts.proofs.Names.{wrote_over, wrote_all, string_long}
use Rattle.table_facts.proofs.copy_at.Goals as goal

pub bounds-f-at : goal.bounds-f-at
bounds-f-at c = (room _ _ c.requires).0

pub overflow_cast-n : goal.overflow_cast-n
overflow_cast-n c = omega (arith, c.type_inv.f c.args.at)

pub returns-then-out-n : goal.returns-then-out-n
returns-then-out-n c =
    wrote_over _ _ (omega (arith, string_long _ _ c.requires, c.if-out-n.true))

pub overflow_add-start : goal.overflow_add-start
overflow_add-start c = omega (arith, room _ _ c.requires)

pub overflow_add-end : goal.overflow_add-end
overflow_add-end c = omega (arith, room _ _ c.requires)

pub slice_bounds-copy-end : goal.slice_bounds-copy-end
slice_bounds-copy-end c = omega (arith, room _ _ c.requires)

pub returns : goal.returns
unfolding str_in str_end
returns c =
    let e = string_long c.args.f.now c.args.at c.requires in
    wrote_all _ _ _ _ (omega (arith, e, c.if-out-n.false)) (sym e) c.copy.ensures
