-- `clue_at` finds one of the clues of a rule.
use Prim.Native.Nat.{◌≤◌}
use lib.ListN.{length}
use Rattle.text.specs.Test.{◌∈◌}
use Rattle.text.specs.String.{Str}
use Rattle.table_place.specs.Place.{str_end, str_in, elems_in, elems_end, path_in}
use Rattle.rule_index.specs.Clue.{values_given, rule_clues}
use Rattle.rule_index.proofs.clue.clue_at.Given as goal

-- the choice is one of the clues, and so are the values of the elements from q on
abbrev pub invariant-loop-left : goal.invariant-loop-left
invariant-loop-left l = (elems_end l.left l.f l.q ≤ length l.f) × ((str_end l.f l.clue.at ≤ length l.f) × (str_in l.f l.clue.at ∈ rule_clues (path_in l.f l.at)))
    × ((c : Str) → c ∈ values_given (elems_in l.left l.f l.q) → c ∈ rule_clues (path_in l.f l.at))

abbrev pub decreases-loop-left : goal.decreases-loop-left
decreases-loop-left l = l.left
