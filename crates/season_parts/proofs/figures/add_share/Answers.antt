-- `add_share` adds the whole percents, and then the tenths.
use mathlib.Core.List.{append_assoc}
use Rattle.season_parts.specs.Figures.{share}
use Rattle.season_parts.proofs.figures.add_share.Goals as goal

pub returns-clause-added : goal.returns-clause-added
unfolding share
returns-clause-added g c =
    simp (append_assoc, c.add_column.ensures.added, c.push_str.ensures, c.push_decimal.ensures.added, c.push_str-2.ensures, c.tenths-t.ensures)
