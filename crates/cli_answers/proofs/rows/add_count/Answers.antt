-- `add_count` is the definition.
use mathlib.Core.Path.{◌≡◌}
use Rattle.std.specs.Prelude.{Some, None}
use Rattle.text_make.proofs.Pieces.{nothing_added}
use Rattle.cli_answers.specs.Rows.{groups_line}
use Rattle.cli_answers.proofs.rows.add_count.Goals as goal

pub returns-in-Ok-Some-clause-added : goal.returns-in-Ok-Some-clause-added
unfolding groups_line
returns-in-Ok-Some-clause-added g c =
    let e : c.in-Ok-Some.field-0 ≡ Some c.in-Ok-Some.groups = rw c.in-Ok-Some.is at c.in-Ok-Some.field-0-is in rw (c.in-Ok-Some.is, e) c.push_fact.ensures.added

pub returns-in-Ok-None-clause-added : goal.returns-in-Ok-None-clause-added
unfolding groups_line
returns-in-Ok-None-clause-added g c =
    let e : c.in-Ok-None.field-0 ≡ None = rw c.in-Ok-None.is at c.in-Ok-None.field-0-is in rw (c.in-Ok-None.is, e) c.push_str.ensures

pub returns-in-Err-clause-added : goal.returns-in-Err-clause-added
unfolding groups_line
returns-in-Err-clause-added g c = rw c.in-Err.is (nothing_added c.args.text.now)
