-- `line` is the definition.
use mathlib.Core.List.{append_assoc}
use Rattle.cli_refusal.specs.Refusal.{refusal}
use Rattle.cli_refusal.proofs.line.Goals as goal

pub returns : goal.returns
unfolding refusal
returns c =
    simp (
      append_assoc,
      c.new-text.ensures,
      c.push_str.ensures,
      c.push_decimal.ensures.added,
      c.add_place.ensures.added,
      c.push_str-2.ensures,
      c.push_str-3.ensures,
      c.meaning.ensures.value,
      c.push_str-4.ensures,
    )
