-- `reason` is the definition.
use Rattle.cli_answers.specs.Lines.{reason}
use Rattle.cli_answers.proofs.lines.reason.Goals as goal

pub returns-in-Default-clause-value : goal.returns-in-Default-clause-value
unfolding reason
returns-in-Default-clause-value c = rw c.in-Default.is

pub returns-in-Explained-clause-value : goal.returns-in-Explained-clause-value
unfolding reason
returns-in-Explained-clause-value c = rw c.in-Explained.is

pub returns-in-Factory-clause-value : goal.returns-in-Factory-clause-value
unfolding reason
returns-in-Factory-clause-value c = rw c.in-Factory.is
