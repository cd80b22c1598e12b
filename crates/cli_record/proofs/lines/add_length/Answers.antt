-- `add_length` adds the line of a length.
use borrow.Author.Tests.{eq-eqb, ne_eqb}
use mathlib.Core.List.{append_assoc}
use Rattle.text.specs.Test.{whether◌then◌else◌}
use Rattle.cli_record.specs.Lines.{length_line}
use Rattle.cli_record.proofs.lines.add_length.Goals as goal

pub returns-then-n-eq-NO_LENGTH-clause-added : goal.returns-then-n-eq-NO_LENGTH-clause-added
unfolding length_line whether◌then◌else◌
returns-then-n-eq-NO_LENGTH-clause-added c =
    rw (eq-eqb _ _ c.if-n-eq-NO_LENGTH.true) (simp (append_assoc, c.push_str.ensures, c.push_str-then-n-eq-NO_LENGTH.ensures))

pub returns-else-n-eq-NO_LENGTH-clause-added : goal.returns-else-n-eq-NO_LENGTH-clause-added
unfolding length_line whether◌then◌else◌
returns-else-n-eq-NO_LENGTH-clause-added c = rw (ne_eqb _ _ c.if-n-eq-NO_LENGTH.false) c.push_fact.ensures.added
