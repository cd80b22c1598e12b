use mathlib.Core.Path.{◌≡◌}
use mathlib.Core.Bool.{false}
use Prim.Native.Nat.{ℕ, ◌%◌, ◌<◌}
use lib.ListN.{get_or}
use Rattle.limits.specs.Limits.{max_rules}
use Rattle.verdict.specs.Pair.{covers_both}
use Rattle.verdict_compare.specs.Place.{elements}
use Rattle.verdict_judge.specs.Placed.{nth}
use Rattle.verdict_tree.proofs.search.Search.decide_joined.Given as goal

-- x is 0 or the weight of a rule, and no rule that is heavier covers the joined path
abbrev pub invariant-loop-x : goal.invariant-loop-x
invariant-loop-x l = (0 < l.x → (l.x % max_rules < l.self.rules.count) × (get_or l.self.weights.now (l.x % max_rules) 0 ≡ l.x)) ×
    ((j : ℕ) → j < l.self.rules.count → l.x < get_or l.self.weights.now j 0
    → covers_both (nth l.self.rules j).path (nth l.self.rules l.i.0).path (elements l.self.asked) ≡ false)

abbrev pub decreases-loop-x : goal.decreases-loop-x
decreases-loop-x l = l.x
