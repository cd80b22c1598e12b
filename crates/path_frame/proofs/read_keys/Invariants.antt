use Rattle.std.proofs.Common.{◌≡◌}
use Rattle.text.specs.Frame.{times}
use Rattle.refusal.specs.Refusal.{code}
use Rattle.path.specs.Bytes.{key}
use Rattle.path.specs.Walk.{keys_refusal}
use Rattle.path_frame.specs.Walked.{walked}
use Rattle.path_frame.proofs.Walks.{lowered}
use Rattle.path_frame.proofs.read_keys.Given as goal

-- `refusal` has the smallest number of the keys passed: lowered by it, the keys from `next` on get the number of all.
abbrev pub invariant-loop-later : goal.invariant-loop-later
invariant-loop-later l = walked keys_refusal (times l.count key l.f l.at) ≡ walked (lowered (code l.refusal) keys_refusal) (times l.later key l.f l.next)
