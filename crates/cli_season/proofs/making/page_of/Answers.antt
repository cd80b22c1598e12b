-- `page_of` makes the three parts one after another.
use mathlib.Core.List.{append_assoc}
use Rattle.cli_season.specs.Page.{page_of}
use Rattle.cli_season.proofs.making.page_of.Goals as goal

pub returns : goal.returns
unfolding page_of
returns c =
    simp (append_assoc, c.new-text.ensures, c.add_decided.ensures.added, c.sum_of.ensures, c.add_never.ensures.added, c.add_lines.ensures.added)
