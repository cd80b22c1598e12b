-- `add_rotation` adds the line that says whether a rotation is on.
use borrow.Author.Tests.{eq-eqb, ne_eqb}
use Rattle.text.specs.Test.{whether◌then◌else◌}
use Rattle.cli_record.specs.Lines.{rotation_line}
use Rattle.cli_record.proofs.lines.add_rotation.Goals as goal

pub returns-then-n-eq0-clause-added : goal.returns-then-n-eq0-clause-added
unfolding rotation_line whether◌then◌else◌
returns-then-n-eq0-clause-added c = rw (eq-eqb _ _ c.if-n-eq0.true) c.push_str.ensures

pub returns-else-n-eq0-clause-added : goal.returns-else-n-eq0-clause-added
unfolding rotation_line whether◌then◌else◌
returns-else-n-eq0-clause-added c = rw (ne_eqb _ _ c.if-n-eq0.false) c.push_str-else-n-eq0.ensures
