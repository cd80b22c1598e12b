-- `reason` is the definition.
use Rattle.cli_season.specs.Refusals.{reason}
use Rattle.cli_season.proofs.refusals.reason.Goals as goal

pub returns-in-NoFigure-clause-value : goal.returns-in-NoFigure-clause-value
unfolding reason
returns-in-NoFigure-clause-value c = rw c.in-NoFigure.is

pub returns-in-LineCount-clause-value : goal.returns-in-LineCount-clause-value
unfolding reason
returns-in-LineCount-clause-value c = rw c.in-LineCount.is

pub returns-in-TooLarge-clause-value : goal.returns-in-TooLarge-clause-value
unfolding reason
returns-in-TooLarge-clause-value c = rw c.in-TooLarge.is
