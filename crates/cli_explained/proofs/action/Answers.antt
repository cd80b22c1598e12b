-- `action` is the definition.
use Rattle.text.specs.Test.{whether◌then◌else◌}
use Rattle.cli_explained.specs.Explained.{action_text}
use Rattle.cli_explained.proofs.action.Goals as goal

pub returns-then-s-clause-value : goal.returns-then-s-clause-value
unfolding action_text whether◌then◌else◌
returns-then-s-clause-value c = rw c.if-s.true

pub returns-else-s-clause-value : goal.returns-else-s-clause-value
unfolding action_text whether◌then◌else◌
returns-else-s-clause-value c = rw c.if-s.false
