-- `copy_name` stores the name of that group.
use native.Mathlib.Omega.{arith}
use Rattle.table_facts.proofs.Names.{number_past, number_at}
use Rattle.table_facts.proofs.copy_name.Goals as goal

pub returns-then-n-k : goal.returns-then-n-k
returns-then-n-k c = number_past _ _ _ _ _ c.if-n-k.true

pub offset_bounds-groups-k : goal.offset_bounds-groups-k
offset_bounds-groups-k c = omega (arith, c.requires.room)

pub bounds-groups-k : goal.bounds-groups-k
bounds-groups-k c =
    omega (arith, c.requires.room)

pub overflow_cast-at : goal.overflow_cast-at
overflow_cast-at c =
    omega (arith, c.type_inv.groups c.args.g.0)

pub copy_at-requires : goal.copy_at-requires
copy_at-requires c =
    c.requires.laid _ c.if-n-k.false

pub returns : goal.returns
returns c =
    number_at _ _ _ _ _ _ _ c.if-n-k.false c.copy_at.ensures
