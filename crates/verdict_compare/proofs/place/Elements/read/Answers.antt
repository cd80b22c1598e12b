use native.Mathlib.Omega.{arith}
use Rattle.table_place.proofs.Cursor.{path_room}
use Rattle.verdict_compare.proofs.place.Elements.read.Goals as goal

pub overflow_add-result : goal.overflow_add-result
overflow_add-result c = let e = path_room c.args.bytes.now c.args.at c.requires in omega arith

pub bounds-bytes-at : goal.bounds-bytes-at
bounds-bytes-at c = path_room c.args.bytes.now c.args.at c.requires

pub invariant_of-result : goal.invariant_of-result
invariant_of-result c = record { inside = c.requires }
