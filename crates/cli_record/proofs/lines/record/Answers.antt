-- `record` makes one line after another.
use mathlib.Core.List.{append_assoc}
use Rattle.cli_record.specs.Lines.{record_lines}
use Rattle.cli_record.proofs.lines.record.Goals as goal

pub returns : goal.returns
unfolding record_lines
returns c =
    simp (
      append_assoc,
      c.new-text.ensures,
      c.add_kind.ensures.added,
      c.push_fact.ensures.added,
      c.add_length.ensures.added,
      c.add_rotation.ensures.added,
      c.add_length-2.ensures.added,
    )
