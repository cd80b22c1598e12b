-- `counts` is the definition.
use mathlib.Core.List.{append_assoc}
use Rattle.cli_policy.specs.Lines.{count_lines}
use Rattle.cli_policy.proofs.lines.counts.Goals as goal

pub returns-in-Ok : goal.returns-in-Ok
unfolding count_lines
returns-in-Ok c =
    rw c.in-Ok.is (simp (append_assoc, c.new-text.ensures, c.push_fact.ensures.added, c.push_fact-in-Ok.ensures.added))

pub returns-in-Err : goal.returns-in-Err
unfolding count_lines
returns-in-Err c = rw c.in-Err.is c.new.ensures
