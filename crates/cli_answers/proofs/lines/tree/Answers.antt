-- `tree` is the definition.
use mathlib.Core.Path.{◌≡◌, ◌∙◌}
use Rattle.verdict_request.specs.declared.TreeAnswer.TheVariants.{All, None, Mixed}
use Rattle.cli_answers.specs.Lines.{tree_lines}
use Rattle.cli_answers.proofs.lines.tree.Goals as goal

pub returns-in-Ok-All : goal.returns-in-Ok-All
unfolding tree_lines
returns-in-Ok-All c =
    let e : c.in-Ok-All.field-0 ≡ All = rw c.in-Ok-All.is at c.in-Ok-All.field-0-is in rw (c.in-Ok-All.is, e) c.of.ensures

pub returns-in-Ok-None : goal.returns-in-Ok-None
unfolding tree_lines
returns-in-Ok-None c =
    let e : c.in-Ok-None.field-0 ≡ None = rw c.in-Ok-None.is at c.in-Ok-None.field-0-is in
    rw (c.in-Ok-None.is, e) (c.of-in-Ok-None.ensures ∙ c.none.ensures.value)

pub returns-in-Ok-Mixed : goal.returns-in-Ok-Mixed
unfolding tree_lines
returns-in-Ok-Mixed c =
    let e : c.in-Ok-Mixed.field-0 ≡ Mixed c.in-Ok-Mixed.rule = rw c.in-Ok-Mixed.is at c.in-Ok-Mixed.field-0-is in rw (c.in-Ok-Mixed.is, e) c.by_rule.ensures

pub returns-in-Err : goal.returns-in-Err
unfolding tree_lines
returns-in-Err c = rw c.in-Err.is c.new.ensures
