use Rattle.verdict.specs.Cover.{holds}
use Rattle.verdict_compare.proofs.place.Keys.give.Goals as goal

pub returns : goal.returns
unfolding holds
returns c = c.answer.ensures
