-- `add_kind` adds the line of the kind.
use borrow.Author.Tests.{eq-eqb, ne_eqb}
use Rattle.text.specs.Test.{whether◌then◌else◌}
use Rattle.cli_record.specs.Lines.{kind_line}
use Rattle.cli_record.proofs.lines.add_kind.Goals as goal

pub returns-then-kind-eq1-clause-added : goal.returns-then-kind-eq1-clause-added
unfolding kind_line whether◌then◌else◌
returns-then-kind-eq1-clause-added c = rw (eq-eqb _ _ c.if-kind-eq1.true) c.push_str.ensures

pub returns-else-kind-eq1-clause-added : goal.returns-else-kind-eq1-clause-added
unfolding kind_line whether◌then◌else◌
returns-else-kind-eq1-clause-added c = rw (ne_eqb _ _ c.if-kind-eq1.false) c.push_str-else-kind-eq1.ensures
