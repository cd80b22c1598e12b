-- `of_reported` equals its definition.
use mathlib.Core.Path.{sym, ap, ◌∙◌}
use Rattle.burgee.specs.Word.{reported_word}
use Rattle.burgee.proofs.word.of_reported.Goals as goal

pub returns-in-Length : goal.returns-in-Length
unfolding reported_word
returns-in-Length c = sym (ap reported_word c.in-Length.is)

pub returns-in-Refused : goal.returns-in-Refused
unfolding reported_word
returns-in-Refused c = c.of_refusal.ensures ∙ sym (ap reported_word c.in-Refused.is)
