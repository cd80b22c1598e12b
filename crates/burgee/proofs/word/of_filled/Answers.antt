-- `of_filled` equals its definition.
use mathlib.Core.Path.{sym, ap, ◌∙◌}
use Rattle.path_read.specs.Calls.{filled_of}
use Rattle.burgee.specs.Word.{filled_word, refusal_word}
use Rattle.burgee.proofs.word.of_filled.Goals as goal

pub returns-in-Ok : goal.returns-in-Ok
unfolding filled_word
returns-in-Ok c = sym (ap (λ r. filled_word (filled_of r)) c.in-Ok.is)

pub returns-in-Err : goal.returns-in-Err
unfolding filled_word
returns-in-Err c = c.of_refusal.ensures ∙ ap (λ n. refusal_word n 0) c.number.ensures ∙ sym (ap (λ r. filled_word (filled_of r)) c.in-Err.is)
