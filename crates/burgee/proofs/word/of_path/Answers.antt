-- `of_path` equals its definition.
use mathlib.Core.Path.{◌≡◌, sym, ap, ◌∙◌}
use Rattle.verdict_request.specs.Answers.{path_answer_of}
use Rattle.verdict_request.specs.declared.PathAnswer.TheVariants.{Permit, Deny, Default}
use Rattle.burgee.specs.Word.{path_word}
use Rattle.burgee.proofs.word.of_path.Goals as goal

pub returns-in-Ok-Permit : goal.returns-in-Ok-Permit
unfolding path_word
returns-in-Ok-Permit c =
    let e : c.in-Ok-Permit.field-0 ≡ Permit c.in-Ok-Permit.rule = rw c.in-Ok-Permit.is at c.in-Ok-Permit.field-0-is in rw (c.in-Ok-Permit.is, e)

pub returns-in-Ok-Deny : goal.returns-in-Ok-Deny
unfolding path_word
returns-in-Ok-Deny c =
    let e : c.in-Ok-Deny.field-0 ≡ Deny c.in-Ok-Deny.rule = rw c.in-Ok-Deny.is at c.in-Ok-Deny.field-0-is in rw (c.in-Ok-Deny.is, e)

pub returns-in-Ok-Default : goal.returns-in-Ok-Default
unfolding path_word
returns-in-Ok-Default c =
    let e : c.in-Ok-Default.field-0 ≡ Default = rw c.in-Ok-Default.is at c.in-Ok-Default.field-0-is in rw (c.in-Ok-Default.is, e)

pub returns-in-Err : goal.returns-in-Err
unfolding path_word
returns-in-Err c = rw c.number.ensures at c.of_refusal.ensures ∙ sym (ap (λ x. path_word (path_answer_of x)) c.in-Err.is)
