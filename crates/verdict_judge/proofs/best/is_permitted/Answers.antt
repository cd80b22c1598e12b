use Rattle.verdict.specs.Verdict.{action}
use Rattle.verdict_judge.specs.Best.{numbered, held}
use Rattle.verdict_judge.proofs.best.is_permitted.Goals as goal

pub returns-in-Some : goal.returns-in-Some
unfolding held numbered action
returns-in-Some c = rw c.in-Some.is c.is_permit.ensures

pub returns-in-None : goal.returns-in-None
unfolding held action
returns-in-None c = rw c.in-None.is
