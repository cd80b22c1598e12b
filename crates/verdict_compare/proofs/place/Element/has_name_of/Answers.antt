use native.Mathlib.Omega.{arith}
use Rattle.table_place.specs.Place.{elem_in}
use Rattle.table_place.proofs.Cursor.{elem_room}
use Rattle.verdict_compare.proofs.place.Element.has_name_of.Goals as goal

pub same_at-requires : goal.same_at-requires
same_at-requires c =
    let own = c.args.self in
    let other = c.args.other in
    let e = elem_room own.bytes.now own.at own.inside in
    let d = elem_room other.bytes.now other.at other.inside in (omega arith, omega arith)

pub returns : goal.returns
unfolding elem_in
returns c = c.same_at.ensures
