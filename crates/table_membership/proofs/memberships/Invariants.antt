-- `memberships` equals its definition. The invariant: the rest of the members adds to the set so far.
use mathlib.Core.Path.{◌≡◌}
use Prim.Native.Nat.{◌-◌}
use Rattle.table_membership.specs.Set.{set_in}
use Rattle.table_membership.proofs.memberships.Given as goal

-- the members from i on add to the set so far what all of them add to the empty one
abbrev pub invariant-loop-i : goal.invariant-loop-i
invariant-loop-i l = set_in l.user l.f l.users l.owners l.n 0 0 ≡ set_in l.user l.f l.users l.owners (l.n - l.i) l.i l.set
