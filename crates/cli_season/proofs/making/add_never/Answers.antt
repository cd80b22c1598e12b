-- `add_never` adds the words between the lists and the second list, or that there is none.
use mathlib.Core.List.{append_assoc}
use Rattle.cli_season.specs.Page.{never_part}
use Rattle.cli_season.proofs.Paging.{none_or}
use Rattle.cli_season.proofs.making.add_never.Goals as goal

pub returns-clause-added : goal.returns-clause-added
unfolding never_part
returns-clause-added c =
    rw (c.push_str-2.ensures, none_or _ _ _ c.add_never.ensures.added _ (rw c.len-start.ensures at c.add_none.ensures.added))
    (simp (append_assoc, c.push_str.ensures))
