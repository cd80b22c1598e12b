-- `line_of` is the definition, case by case.
use Rattle.cli_season.specs.Refusals.{line_of}
use Rattle.cli_season.proofs.refusals.line_of.Goals as goal

pub returns-in-NoFigure : goal.returns-in-NoFigure
unfolding line_of
returns-in-NoFigure c = rw c.in-NoFigure.is

pub returns-in-LineCount : goal.returns-in-LineCount
unfolding line_of
returns-in-LineCount c = rw c.in-LineCount.is

pub returns-in-TooLarge : goal.returns-in-TooLarge
unfolding line_of
returns-in-TooLarge c = rw c.in-TooLarge.is
