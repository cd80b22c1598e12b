-- The words of a policy's check.
use Rattle.std.proofs.Common.{◌≡◌, refl}
use borrow.Author.Tests.{ne_eqb}
use Rattle.text.specs.Test.{whether◌then◌else◌}
use Rattle.text.specs.Refusal.{clear}
use Rattle.refusal.specs.Refusal.{number}
use Rattle.refusal.specs.declared.Refusal.{Refusal}
use Rattle.refusal.proofs.Numbers.{never_clear}
use Rattle.policy_check.specs.Answer.{check_of}
use Rattle.burgee.specs.Word.{refusal_word, policy_word}

pub accepted : 0 ≡ policy_word (check_of clear)
unfolding policy_word check_of whether◌then◌else◌
accepted = refl

pub refused : (r : Refusal) → refusal_word (number r) 0 ≡ policy_word (check_of (number r))
unfolding policy_word check_of whether◌then◌else◌
refused r = rw (ne_eqb (number r) clear (λ e. never_clear r e))
