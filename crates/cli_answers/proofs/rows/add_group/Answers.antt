-- `add_group` adds the line of a group.
use mathlib.Core.List.{append_assoc}
use Rattle.cli_answers.specs.Rows.{group_line}
use Rattle.cli_answers.proofs.rows.add_group.Goals as goal

pub returns-clause-added : goal.returns-clause-added
unfolding group_line
returns-clause-added g c =
    simp (append_assoc, c.push_str.ensures, c.push_decimal.ensures.added, c.push_str-2.ensures, c.add_name.ensures.added, c.push_str-3.ensures)
