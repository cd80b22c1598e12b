-- `memberships` equals its definition, by the laws of `Walks`. The invariant: the members from some number on add to the set so far what all add.
use Prim.Native.Nat.{◌-◌}
use Rattle.member_index.proofs.Walks.{Walking, left_from}
use Rattle.member_index.proofs.memberships.Given as goal

-- `next` is the first of the user's place among the members from some number on, and these add to the set so far what all of them add to the empty one
abbrev pub invariant-loop-next : goal.invariant-loop-next
invariant-loop-next l = Walking l.user l.f l.users l.owners l.n l.heads l.links l.place l.set l.next

abbrev pub decreases-loop-next : goal.decreases-loop-next
decreases-loop-next l = left_from l.n l.next
