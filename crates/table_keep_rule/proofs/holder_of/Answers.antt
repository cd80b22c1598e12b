-- `holder_of` equals its definition.
use Rattle.text.specs.Test.{whether◌then◌else◌}
use Rattle.table_keep_rule.proofs.holder_of.Goals as goal

pub returns-then-by_group : goal.returns-then-by_group
unfolding whether◌then◌else◌
returns-then-by_group c = rw c.if-by_group.true c.number_of.ensures

pub returns : goal.returns
unfolding whether◌then◌else◌
returns c = rw c.if-by_group.false
