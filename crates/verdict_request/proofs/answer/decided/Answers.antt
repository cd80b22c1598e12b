use mathlib.Core.Path.{sym, ◌∙◌}
use Rattle.text.specs.Test.{whether◌then◌else◌}
use Rattle.verdict_judge.specs.Best.{numbered, held}
use Rattle.verdict_request.specs.Calls.{decided_by}
use Rattle.verdict_request.proofs.answer.decided.Goals as goal

pub returns-in_default : goal.returns-in_default
unfolding held decided_by
returns-in_default c = rw c.in_default.is

pub returns-then-is_permit : goal.returns-then-is_permit
unfolding held numbered decided_by whether◌then◌else◌
returns-then-is_permit c = rw (c.in-Some.is, sym c.is_permit.ensures ∙ c.if-is_permit.true)

pub returns-else-is_permit : goal.returns-else-is_permit
unfolding held numbered decided_by whether◌then◌else◌
returns-else-is_permit c = rw (c.in-Some.is, sym c.is_permit.ensures ∙ c.if-is_permit.false)
