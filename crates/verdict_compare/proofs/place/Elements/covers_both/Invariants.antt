use mathlib.Core.Path.{◌≡◌}
use Rattle.verdict.specs.Pair.{covers_both}
use Rattle.verdict_compare.specs.Place.{elements}
use Rattle.verdict_compare.proofs.place.Elements.covers_both.Given as goal

-- the elements passed are met: the answer is that of the three paths that are left
abbrev pub invariant-loop-a : goal.invariant-loop-a
invariant-loop-a l = covers_both (elements l.self) (elements l.first) (elements l.second) ≡ covers_both (elements l.own) (elements l.left) (elements l.right)

abbrev pub decreases-loop-a : goal.decreases-loop-a
decreases-loop-a l = l.own.count
