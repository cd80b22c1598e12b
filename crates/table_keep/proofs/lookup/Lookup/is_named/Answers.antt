-- `is_named` equals its definition.
use Rattle.table_rows.proofs.Strings.{number_past, number_under}
use Rattle.table_keep.proofs.lookup.Lookup.is_named.Goals as goal

pub returns-then-self-k : goal.returns-then-self-k
returns-then-self-k c = number_past _ _ _ c.if-self-k.true

pub is_at-requires : goal.is_at-requires
is_at-requires c = c.args.self.groups.distinct.listed.laid c.args.g.0 c.if-self-k.false

pub returns : goal.returns
returns c = number_under _ _ _ _ c.if-self-k.false c.is_at.ensures
