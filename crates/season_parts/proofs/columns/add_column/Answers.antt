-- `add_column` adds the spaces and then the number.
use mathlib.Core.List.{append_assoc}
use Rattle.season_parts.specs.Columns.{column}
use Rattle.season_parts.proofs.columns.add_column.Goals as goal

pub returns-clause-added : goal.returns-clause-added
unfolding column
returns-clause-added g c =
    simp (append_assoc, c.push_str.ensures, c.as_bytes.ensures.value, c.push_times.ensures, c.saturating_sub.ensures, c.len.ensures, c.digits-digits.ensures.value)
