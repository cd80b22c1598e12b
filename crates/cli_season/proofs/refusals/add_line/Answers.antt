-- `add_line` is the definition.
use mathlib.Core.List.{append_assoc}
use Rattle.cli_season.specs.Refusals.{refused_report}
use Rattle.cli_season.proofs.refusals.add_line.Goals as goal

pub returns : goal.returns
unfolding refused_report
returns g c =
    simp (
      append_assoc,
      c.push_str.ensures,
      c.add_place.ensures.added,
      c.line_of.ensures,
      c.push_str-2.ensures,
      c.push_str-3.ensures,
      c.push_str-4.ensures,
      c.reason.ensures.value,
    )
