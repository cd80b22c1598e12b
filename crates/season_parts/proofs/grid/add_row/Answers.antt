-- `add_row` adds the name, and then column after column.
use mathlib.Core.List.{append_assoc}
use Rattle.season_parts.specs.Grid.{grid_row}
use Rattle.season_parts.proofs.grid.add_row.Goals as goal

pub returns-clause-added : goal.returns-clause-added
unfolding grid_row
returns-clause-added g c =
    simp (
      append_assoc,
      c.push_str.ensures,
      c.add_column.ensures.added,
      c.add_column-2.ensures.added,
      c.add_column-3.ensures.added,
      c.add_column-4.ensures.added,
      c.push_str-2.ensures,
    )
