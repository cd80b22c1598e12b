-- `copy_id` stores the id of that rule.
use native.Mathlib.Omega.{arith}
use Rattle.table_rows.specs.Rules.{id_at, origin_at}
use Rattle.table_facts.proofs.Names.{id_inside, id_past, id_at_lem}
use Rattle.table_facts.proofs.copy_id.Goals as goal

pub returns-then-n-k : goal.returns-then-n-k
returns-then-n-k c = id_past _ _ _ _ _ c.if-n-k.true

pub offset_bounds-starts-k : goal.offset_bounds-starts-k
offset_bounds-starts-k c = omega (arith, c.requires.room)

pub bounds-starts-k : goal.bounds-starts-k
bounds-starts-k c =
    omega (arith, c.requires.room)

pub overflow_cast-s : goal.overflow_cast-s
overflow_cast-s c =
    omega (arith, c.type_inv.starts c.args.rule.0)

pub overflow_add-s : goal.overflow_add-s
overflow_add-s c =
    omega (arith, c.type_inv.starts c.args.rule.0)

pub str_end-at-requires : goal.str_end-at-requires
unfolding id_at
str_end-at-requires c =
    id_inside _ _ (c.requires.laid _ c.if-n-k.false)

pub copy_at-requires : goal.copy_at-requires
unfolding origin_at id_at
copy_at-requires c =
    rw c.str_end-at.ensures (c.requires.laid _ c.if-n-k.false)

pub returns : goal.returns
unfolding id_at
returns c =
    id_at_lem _ _ _ _ _ _ _ c.if-n-k.false (rw c.str_end-at.ensures at c.copy_at.ensures)
