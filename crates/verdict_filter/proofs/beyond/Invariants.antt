use mathlib.Core.Path.{◌≡◌}
use Prim.Native.Nat.{◌+◌, ◌*◌, ◌≤◌}
use Rattle.verdict_compare.specs.Place.{elements}
use Rattle.verdict_filter.specs.Bloom.{depth_step, unite, beyond}
use Rattle.verdict_filter.proofs.beyond.Given as goal

-- x has the digits of the elements passed; d is the depth of the next
abbrev pub invariant-loop-e : goal.invariant-loop-e
invariant-loop-e l = (l.d + depth_step * l.own.count ≤ depth_step * l.path.count)
    × (beyond l.s 0 (elements l.path) (elements l.asked) ≡ unite l.x (beyond l.s l.d (elements l.own) (elements l.other)))

abbrev pub decreases-loop-e : goal.decreases-loop-e
decreases-loop-e l = l.own.count
