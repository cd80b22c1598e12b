-- `mark_first` goes from the last key to the first.
use mathlib.Core.Path.{◌≡◌}
use Prim.Native.Nat.{◌-◌, ◌≤◌}
use lib.ListN.{length}
use Rattle.rule_index.specs.Index.{buckets}
use Rattle.rule_index.proofs.Keying.{FirstsFrom}
use Rattle.rule_index.proofs.keys.mark_first.Given as goal

-- the keys from number `left` on are marked
abbrev pub invariant-loop-left : goal.invariant-loop-left
invariant-loop-left l = (l.left ≤ l.n) × (length l.first ≡ buckets) × FirstsFrom l.keys l.n l.first l.left

abbrev pub decreases-loop-left : goal.decreases-loop-left
decreases-loop-left l = l.left
