-- `by_rule` is the definition.
use mathlib.Core.List.{append_assoc}
use Rattle.cli_answers.specs.Lines.{by_rule}
use Rattle.cli_answers.proofs.lines.by_rule.Goals as goal

pub returns : goal.returns
unfolding by_rule
returns c =
    simp (append_assoc, c.new-text.ensures, c.push_fact.ensures.added, c.push_str.ensures, c.add_name.ensures.added, c.push_str-2.ensures)
