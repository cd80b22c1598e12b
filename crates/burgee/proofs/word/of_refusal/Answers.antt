-- `of_refusal` equals its definition.
use mathlib.Core.Path.{refl}
use Rattle.burgee.specs.Word.{refusal_word}
use Rattle.burgee.proofs.word.of_refusal.Goals as goal

pub returns : goal.returns
unfolding refusal_word
returns c = refl
