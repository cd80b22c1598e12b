-- `number_at` ends, and reads within its array; what it answers is only tried.
use Prim.Native.Nat.{◌-◌, ◌≤◌}
use Rattle.table_keep.proofs.lookup.Lookup.number_at.Given as goal

-- `low` is at most `high`, which stays within the groups
abbrev pub invariant-loop-low : goal.invariant-loop-low
invariant-loop-low l = (l.low ≤ l.high) × (l.high ≤ l.self.count)

abbrev pub decreases-loop-low : goal.decreases-loop-low
decreases-loop-low l = l.high - l.low
