use native.Mathlib.Omega.{arith}
use mathlib.Core.Path.{refl}
use Rattle.table_place.specs.Place.{elem_in}
use Rattle.table_place.proofs.Cursor.{elem_room}
use Rattle.verdict_compare.proofs.place.Element.keys.Goals as goal

pub str_end-a-requires : goal.str_end-a-requires
str_end-a-requires c =
    let own = c.args.self in let e = elem_room own.bytes.now own.at own.inside in omega arith

pub overflow_add-result : goal.overflow_add-result
overflow_add-result c =
    let own = c.args.self in let e = elem_room own.bytes.now own.at own.inside in omega (arith, c.str_end-a.ensures)

pub bounds-bytes-a : goal.bounds-bytes-a
bounds-bytes-a c =
    let own = c.args.self in let e = elem_room own.bytes.now own.at own.inside in omega (arith, c.str_end-a.ensures)

pub invariant_of-result : goal.invariant_of-result
invariant_of-result c =
    let own = c.args.self in record { inside = rw c.str_end-a.ensures (elem_room own.bytes.now own.at own.inside).1 }

pub returns : goal.returns
unfolding elem_in
returns c = rw c.str_end-a.ensures
