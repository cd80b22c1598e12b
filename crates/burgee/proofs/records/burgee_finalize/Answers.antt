use mathlib.Core.Path.{refl}
use Rattle.rotation.specs.Calls.{Stepped}
use Rattle.burgee.specs.Calls.{outcome, held}
use Rattle.burgee.specs.Word.{checked_word}
use Rattle.burgee.proofs.records.burgee_finalize.Goals as goal

pub returns : goal.returns
unfolding outcome
returns c = rw (c.settle.ensures.word, c.settle.ensures.next, c.finalize-step.ensures) (refl, refl)
