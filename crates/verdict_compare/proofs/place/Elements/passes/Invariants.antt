use mathlib.Core.Path.{◌≡◌}
use Rattle.verdict_compare.specs.Compare.{path_passes}
use Rattle.verdict_compare.specs.Place.{elements}
use Rattle.verdict_compare.proofs.place.Elements.passes.Given as goal

-- the elements passed pass the test: the answer is that of the two paths that are left
abbrev pub invariant-loop-a : goal.invariant-loop-a
invariant-loop-a l = path_passes l.cover (elements l.self) (elements l.other) ≡ path_passes l.cover (elements l.own) (elements l.asked)

abbrev pub decreases-loop-a : goal.decreases-loop-a
decreases-loop-a l = l.own.count
