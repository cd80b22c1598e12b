use native.Mathlib.Omega.{arith}
use Rattle.table_place.proofs.Cursor.{elems_cons, elems_room, elems_again}
use Rattle.verdict_compare.specs.Place.{Rest}
use Rattle.verdict_compare.proofs.place.Elements.rest.Goals as goal

pub elem_end-requires : goal.elem_end-requires
elem_end-requires c =
    let own = c.args.self in (elems_room own.bytes.now own.count own.at c.requires own.inside).0

pub invariant_of-result : goal.invariant_of-result
invariant_of-result c =
    let own = c.args.self in
    record { inside = elems_again own.bytes.now own.count own.at _ c.requires own.inside c.elem_end.ensures }

pub returns : goal.returns
unfolding Rest
returns c =
    let own = c.args.self in (omega (arith, c.requires), rw c.elem_end.ensures (elems_cons own.bytes.now own.count own.at c.requires))
