-- `add_ranked` is the definition.
use mathlib.Core.List.{append_assoc}
use Rattle.cli_explained.specs.Explained.{ranked}
use Rattle.cli_explained.proofs.add_ranked.Goals as goal

pub returns-clause-added : goal.returns-clause-added
unfolding ranked
returns-clause-added g c =
    simp (append_assoc, c.push_decimal.ensures.added, c.add_fate.ensures.added, c.push_decimal-2.ensures.added, c.add_standing.ensures.added)
