-- `link` stores chains as its contract says, by the laws of `Chains`. The invariant: the members from `left` on are linked.
use mathlib.Core.Path.{◌≡◌}
use Prim.Native.Nat.{◌-◌, ◌≤◌}
use lib.ListN.{length}
use Rattle.member_index.specs.Index.{LinkedFrom}
use Rattle.member_index.proofs.link.Given as goal

-- left is at most n, the members from number left on are linked, and `links` keeps its length
abbrev pub invariant-loop-left : goal.invariant-loop-left
invariant-loop-left l = (l.left ≤ l.n) × LinkedFrom l.seed l.f l.users l.n l.left l.heads l.links × (length l.links ≡ length l.initial.links)

abbrev pub decreases-loop-left : goal.decreases-loop-left
decreases-loop-left l = l.left
