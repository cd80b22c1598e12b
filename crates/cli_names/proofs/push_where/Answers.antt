-- `push_where` stores the position, or nothing.
use Rattle.text.specs.Test.{whether◌then◌else◌}
use Rattle.cli_names.proofs.push_where.Goals as goal

pub returns-then-test : goal.returns-then-test
unfolding whether◌then◌else◌
returns-then-test c = record { count = rw c.if-test.true; same = rw c.if-test.true }

pub returns : goal.returns
unfolding whether◌then◌else◌
returns c = record { count = rw c.if-test.false; same = rw c.if-test.false }
