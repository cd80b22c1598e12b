use mathlib.Core.Path.{◌≡◌}
use mathlib.Core.Bool.{Bool}
use Prim.Native.Nat.{ℕ, ◌<◌}
use lib.ListN.{length, get_or}
use Rattle.table.specs.Table.{Rule}
use Rattle.verdict_compare.specs.Place.{elements}
use Rattle.verdict_judge.specs.Placed.{marked}
use Rattle.verdict_tree.specs.Tree.{Weights, Packed, fitting}
use Rattle.verdict_tree.proofs.weigh.weigh.Given as goal

-- the weights of the rules before i are stored
abbrev pub invariant-loop-i : goal.invariant-loop-i
invariant-loop-i l = (length l.weights ≡ length l.initial.weights)
    × ((j : ℕ) → j < l.i → Packed (get_or l.weights j 0) j)
    × ((app : Rule → Bool) → marked app l.rules l.on → Weights (fitting app (elements l.asked)) l.rules l.weights l.i)
