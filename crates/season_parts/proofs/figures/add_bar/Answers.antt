-- `add_bar` adds the marks, and then spaces.
use mathlib.Core.List.{append_assoc}
use Rattle.season_parts.specs.Figures.{bar}
use Rattle.season_parts.proofs.figures.add_bar.Goals as goal

pub returns-clause-added : goal.returns-clause-added
unfolding bar
returns-clause-added g c =
    simp (append_assoc, c.push_times.ensures, c.push_times-2.ensures, c.bar_length-marks.ensures.value)
