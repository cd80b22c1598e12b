-- `add_lines` adds the heading, and then row after row.
use mathlib.Core.List.{append_assoc}
use Rattle.season_parts.specs.Grid.{grid_lines}
use Rattle.season_parts.proofs.grid.add_lines.Goals as goal

pub returns-clause-added : goal.returns-clause-added
unfolding grid_lines
returns-clause-added g c =
    simp (append_assoc, c.push_str.ensures, c.add_row.ensures.added, c.add_row-2.ensures.added, c.add_row-3.ensures.added)
