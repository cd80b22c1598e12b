use native.Mathlib.Omega.{arith}
use mathlib.Core.Path.{sym}
use Rattle.table_place.specs.Place.{elem_end}
use Rattle.table_place.proofs.Cursor.{elem_room}
use Rattle.table_place.proofs.elem_end.Goals as goal

pub str_end-a-requires : goal.str_end-a-requires
str_end-a-requires c =
    let e = elem_room c.args.f.now c.args.at c.requires in omega arith

pub bounds-f-a : goal.bounds-f-a
bounds-f-a c =
    let e = elem_room c.args.f.now c.args.at c.requires in omega arith

pub overflow_cast-k : goal.overflow_cast-k
overflow_cast-k c = omega (arith, c.type_inv.f c.str_end-a.result)

pub overflow_add-a : goal.overflow_add-a
overflow_add-a c =
    let e = elem_room c.args.f.now c.args.at c.requires in omega arith

pub keys_end-requires : goal.keys_end-requires
keys_end-requires c =
    rw c.str_end-a.ensures (elem_room c.args.f.now c.args.at c.requires).1

pub returns : goal.returns
unfolding elem_end
returns c = rw (sym c.str_end-a.ensures) c.keys_end.ensures
