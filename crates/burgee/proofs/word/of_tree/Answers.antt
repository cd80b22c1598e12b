-- `of_tree` equals its definition.
use mathlib.Core.Path.{◌≡◌, sym, ap, ◌∙◌}
use Rattle.verdict_request.specs.Answers.{tree_answer_of}
use Rattle.verdict_request.specs.declared.TreeAnswer.TheVariants.{All, None, Mixed}
use Rattle.burgee.specs.Word.{tree_word}
use Rattle.burgee.proofs.word.of_tree.Goals as goal

pub returns-in-Ok-All : goal.returns-in-Ok-All
unfolding tree_word
returns-in-Ok-All c =
    let e : c.in-Ok-All.field-0 ≡ All = rw c.in-Ok-All.is at c.in-Ok-All.field-0-is in rw (c.in-Ok-All.is, e)

pub returns-in-Ok-None : goal.returns-in-Ok-None
unfolding tree_word
returns-in-Ok-None c =
    let e : c.in-Ok-None.field-0 ≡ None = rw c.in-Ok-None.is at c.in-Ok-None.field-0-is in rw (c.in-Ok-None.is, e)

pub returns-in-Ok-Mixed : goal.returns-in-Ok-Mixed
unfolding tree_word
returns-in-Ok-Mixed c =
    let e : c.in-Ok-Mixed.field-0 ≡ Mixed c.in-Ok-Mixed.rule = rw c.in-Ok-Mixed.is at c.in-Ok-Mixed.field-0-is in rw (c.in-Ok-Mixed.is, e)

pub returns-in-Err : goal.returns-in-Err
unfolding tree_word
returns-in-Err c = rw c.number.ensures at c.of_refusal.ensures ∙ sym (ap (λ x. tree_word (tree_answer_of x)) c.in-Err.is)
