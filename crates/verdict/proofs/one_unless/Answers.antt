use Rattle.text.specs.Test.{whether◌then◌else◌}
use Rattle.verdict.proofs.one_unless.Goals as goal

pub returns-then-b : goal.returns-then-b
unfolding whether◌then◌else◌
returns-then-b c = rw c.if-b.true

pub returns-else-b : goal.returns-else-b
unfolding whether◌then◌else◌
returns-else-b c = rw c.if-b.false
