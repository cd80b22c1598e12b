use native.Mathlib.Omega.{arith}
use mathlib.Core.Path.{refl}
use Rattle.table_place.proofs.Cursor.{elems_nil, elems_room}
use Rattle.verdict_compare.specs.Place.{First}
use Rattle.verdict_compare.proofs.place.Elements.first.Goals as goal

pub returns-then-count-eq0 : goal.returns-then-count-eq0
unfolding First
returns-then-count-eq0 c =
    let own = c.args.self in elems_nil own.bytes.now own.count own.at (omega (arith, c.if-count-eq0.true))

pub invariant_of-result : goal.invariant_of-result
invariant_of-result c =
    let own = c.args.self in
    record { inside = (elems_room own.bytes.now own.count own.at (omega (arith, c.if-count-eq0.false)) own.inside).0 }

pub returns : goal.returns
unfolding First
returns c = (omega (arith, c.if-count-eq0.false), refl)
