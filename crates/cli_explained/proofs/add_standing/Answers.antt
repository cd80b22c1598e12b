-- `add_standing` is the definition.
use mathlib.Core.List.{append_assoc}
use Rattle.cli_explained.specs.Explained.{standing_text}
use Rattle.cli_explained.proofs.add_standing.Goals as goal

pub returns-clause-added : goal.returns-clause-added
unfolding standing_text
returns-clause-added g c =
    simp (
      append_assoc,
      c.push_str.ensures,
      c.action.ensures.value,
      c.push_decimal.ensures.added,
      c.push_str-2.ensures,
      c.push_decimal-2.ensures.added,
      c.push_str-3.ensures,
      c.subject.ensures.value,
    )
