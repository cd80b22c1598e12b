-- `join` equals its definition.
use mathlib.Core.Path.{sym, ◌∙◌}
use Rattle.table_membership.proofs.Sets.{join_hit, join_miss}
use Rattle.table_membership.proofs.join.Goals as goal

pub is_at-requires : goal.is_at-requires
is_at-requires c = c.requires.1

pub insert-requires : goal.insert-requires
insert-requires c = c.requires.0

pub returns-then-is_at : goal.returns-then-is_at
returns-then-is_at c = join_hit _ _ _ _ (sym c.is_at.ensures ∙ c.if-is_at.true) c.insert.ensures

pub returns : goal.returns
returns c = join_miss _ _ _ (sym c.is_at.ensures ∙ c.if-is_at.false)
