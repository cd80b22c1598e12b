-- `subject` is the definition.
use Rattle.text.specs.Test.{whether◌then◌else◌}
use Rattle.cli_explained.specs.Explained.{subject_text}
use Rattle.cli_explained.proofs.subject.Goals as goal

pub returns-then-s-clause-value : goal.returns-then-s-clause-value
unfolding subject_text whether◌then◌else◌
returns-then-s-clause-value c = rw c.if-s.true

pub returns-else-s-clause-value : goal.returns-else-s-clause-value
unfolding subject_text whether◌then◌else◌
returns-else-s-clause-value c = rw c.if-s.false
