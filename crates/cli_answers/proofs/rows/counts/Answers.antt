-- `counts` is the definition.
use mathlib.Core.List.{append_assoc}
use Rattle.cli_answers.specs.Rows.{row_lines}
use Rattle.cli_answers.proofs.rows.counts.Goals as goal

pub returns : goal.returns
unfolding row_lines
returns c =
    simp (append_assoc, c.new-text.ensures, c.push_fact.ensures.added, c.push_fact-2.ensures.added, c.push_fact-3.ensures.added)
