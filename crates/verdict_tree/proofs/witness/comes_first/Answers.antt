use Rattle.verdict_judge.specs.Best.{numbered, held, wins}
use Rattle.verdict_tree.proofs.witness.comes_first.Goals as goal

pub returns-in-Some : goal.returns-in-Some
unfolding held numbered wins
returns-in-Some c = rw c.in-Some.is c.is_earlier.ensures

pub returns-in-None : goal.returns-in-None
unfolding held wins
returns-in-None c = rw c.in-None.is
