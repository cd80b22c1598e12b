-- `number` equals its definition.
use Rattle.text.specs.Test.{whether◌then◌else◌}
use Rattle.table.specs.Walk.{merged}
use Rattle.table.proofs.frame.number.Goals as goal

pub returns-then-five : goal.returns-then-five
unfolding merged whether◌then◌else◌
returns-then-five c = rw c.if-five.true

pub returns-then-six : goal.returns-then-six
unfolding merged whether◌then◌else◌
returns-then-six c = rw (c.if-five.false, c.if-six.true)

pub returns-then-eight : goal.returns-then-eight
unfolding merged whether◌then◌else◌
returns-then-eight c = rw (c.if-five.false, c.if-six.false, c.if-eight.true)

pub returns-then-nine : goal.returns-then-nine
unfolding merged whether◌then◌else◌
returns-then-nine c = rw (c.if-five.false, c.if-six.false, c.if-eight.false, c.if-nine.true)

pub returns : goal.returns
unfolding merged whether◌then◌else◌
returns c = rw (c.if-five.false, c.if-six.false, c.if-eight.false, c.if-nine.false)
