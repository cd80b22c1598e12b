use Rattle.verdict.specs.Verdict.{word, answer}
use Rattle.verdict_judge.specs.Best.{numbered, held}
use Rattle.verdict_request.specs.Calls.{spread}
use Rattle.verdict_request.proofs.answer.spread_of.Goals as goal

pub returns-in-Some : goal.returns-in-Some
unfolding held numbered spread answer
returns-in-Some c = rw c.in-Some.is

pub returns-then-v : goal.returns-then-v
unfolding held spread answer word
returns-then-v c = rw (c.in_default.is, c.if-v.true)

pub returns : goal.returns
unfolding held spread answer word
returns c = rw (c.in_default.is, c.if-v.false)
