-- `number_of` equals its definition.
use mathlib.Core.Path.{sym, ◌∙◌}
use Rattle.table_rows.proofs.Grow.{number_is}
use Rattle.table_keep.proofs.lookup.Lookup.number_of.Goals as goal

pub returns-then-is_named : goal.returns-then-is_named
returns-then-is_named c =
    number_is _ _ _ _ _ c.args.self.groups.distinct.distinct (sym c.is_named.ensures ∙ c.if-is_named.true)
