use Rattle.rotation.specs.Calls.{step_of}
use Rattle.burgee.specs.Word.{checked_word}
use Rattle.burgee.proofs.records.settle.Goals as goal

pub returns-in-Ok-clause-word : goal.returns-in-Ok-clause-word
unfolding step_of checked_word
returns-in-Ok-clause-word c = rw c.in-Ok.is

pub returns-in-Ok-clause-next : goal.returns-in-Ok-clause-next
unfolding step_of
returns-in-Ok-clause-next c = rw c.in-Ok.is

pub returns-in-Err-clause-word : goal.returns-in-Err-clause-word
unfolding step_of checked_word
returns-in-Err-clause-word c = rw (c.in-Err.is, c.of_refusal.ensures, c.number.ensures)

pub returns-in-Err-clause-next : goal.returns-in-Err-clause-next
unfolding step_of
returns-in-Err-clause-next c = rw c.in-Err.is
