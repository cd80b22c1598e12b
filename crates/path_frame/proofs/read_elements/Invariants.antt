use Rattle.std.proofs.Common.{◌≡◌, ◌-◌}
use Rattle.text.specs.Frame.{times}
use Rattle.refusal.specs.Refusal.{code}
use Rattle.path.specs.Bytes.{element}
use Rattle.path.specs.Walk.{elems_refusal}
use Rattle.path_frame.specs.Walked.{walked}
use Rattle.path_frame.proofs.Walks.{lowered}
use Rattle.path_frame.proofs.read_elements.Given as goal

-- `refusal` has the smallest number of the elements passed: lowered by it, the elements from `next` on get the number of all.
abbrev pub invariant-loop : goal.invariant-loop
invariant-loop l = walked elems_refusal (times l.count element l.f l.at) ≡ walked (lowered (code l.refusal) elems_refusal) (times (l.count - l.counter) element l.f l.next)
