-- `add_decided` adds the head of the list and its lines, or that there are none.
use mathlib.Core.List.{append_assoc}
use mathlib.Core.Path.{◌∙◌}
use Rattle.cli_season.specs.Page.{decided_part}
use Rattle.cli_season.proofs.Paging.{none_or}
use Rattle.cli_season.proofs.making.add_decided.Goals as goal

pub returns-clause-added : goal.returns-clause-added
unfolding decided_part
returns-clause-added c =
    none_or _ _ _ c.add_decided.ensures.added _ (rw c.len-start.ensures at c.add_none.ensures.added)
    ∙ simp (append_assoc, c.push_fact.ensures.added, c.push_str.ensures)
