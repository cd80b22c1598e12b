-- `add_line` is the definition.
use mathlib.Core.List.{append_assoc}
use Rattle.cli_explained.specs.Explained.{ranked_line}
use Rattle.cli_explained.proofs.add_line.Goals as goal

pub returns-clause-added : goal.returns-clause-added
unfolding ranked_line
returns-clause-added g c =
    simp (
      append_assoc,
      c.add_ranked.ensures.added,
      c.standing_at-own.ensures,
      c.lost_at-step.ensures,
      c.standing_at.ensures,
      c.add_id.ensures.added,
      c.push_str.ensures,
    )
