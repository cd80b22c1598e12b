use mathlib.Core.Path.{refl}
use Rattle.rotation.specs.Calls.{Stepped}
use Rattle.burgee.specs.Calls.{outcome, held}
use Rattle.burgee.specs.Word.{checked_word}
use Rattle.burgee.proofs.records.burgee_upload.Goals as goal

pub returns : goal.returns
unfolding outcome
returns c = rw (c.settle.ensures.word, c.settle.ensures.next, c.upload-step.ensures.0, c.upload-step.ensures.1) (refl, refl)
