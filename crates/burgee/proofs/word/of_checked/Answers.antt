-- `of_checked` equals its definition.
use mathlib.Core.Path.{sym, ap, ◌∙◌}
use Rattle.burgee.specs.Word.{checked_word}
use Rattle.burgee.proofs.word.of_checked.Goals as goal

pub returns-in-Ok : goal.returns-in-Ok
unfolding checked_word
returns-in-Ok c = rw c.in-Ok.is

pub returns-in-Err : goal.returns-in-Err
unfolding checked_word
returns-in-Err c = rw c.in-Err.is (c.of_refusal.ensures ∙ rw c.number.ensures)
