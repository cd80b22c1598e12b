-- `choose_of` ends with the choice before, or with one of the values.
use Prim.Native.Nat.{◌≤◌}
use lib.ListN.{length}
use Rattle.text.specs.Test.{◌∈◌}
use Rattle.text.specs.String.{Str}
use Rattle.verdict.specs.Cover.{given}
use Rattle.table_place.specs.Place.{keys_in, keys_end}
use Rattle.rule_index.specs.Clue.{values_of}
use Rattle.rule_index.proofs.Values.{Chosen}
use Rattle.rule_index.proofs.clue.choose_of.Given as goal

-- what is chosen is the choice before or one of the values, and those of the keys from q on are among these
abbrev pub invariant-loop-left : goal.invariant-loop-left
invariant-loop-left l = (keys_end l.left l.f l.q ≤ length l.f) × Chosen l.f (values_of (given (keys_in l.k l.f l.at))) l.initial.best.at l.best.at ×
    ((s : Str) → s ∈ values_of (given (keys_in l.left l.f l.q)) → s ∈ values_of (given (keys_in l.k l.f l.at)))

abbrev pub decreases-loop-left : goal.decreases-loop-left
decreases-loop-left l = l.left
