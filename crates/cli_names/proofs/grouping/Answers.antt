-- `grouping` is the definition.
use Rattle.text.specs.Test.{whether◌then◌else◌}
use Rattle.cli_names.specs.Names.{grouping}
use Rattle.cli_names.proofs.grouping.Goals as goal

pub returns-then-grouped : goal.returns-then-grouped
unfolding grouping whether◌then◌else◌
returns-then-grouped c = rw c.if-grouped.true

pub returns-else-grouped : goal.returns-else-grouped
unfolding grouping whether◌then◌else◌
returns-else-grouped c = rw c.if-grouped.false
