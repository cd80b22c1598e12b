use mathlib.Core.Path.{◌≡◌}
use lib.ListN.{length}
use Rattle.verdict_compare.specs.Place.{elements}
use Rattle.verdict_tree.specs.Tree.{Filters}
use Rattle.verdict_tree.proofs.filter.fill.Given as goal

-- of the first i rules, those that fit have their filters stored
abbrev pub invariant-loop-i : goal.invariant-loop-i
invariant-loop-i l = (length l.filters ≡ length l.initial.filters) × Filters l.s l.rules l.weights (elements l.asked) l.filters l.i
