-- `Tally::new` counts nothing.
use native.Mathlib.Omega.{arith}
use Rattle.season_count.proofs.Raising.{none_up_to}
use Rattle.season_count.proofs.count.Tally.new.Goals as goal

pub invariant_of-result : goal.invariant_of-result
invariant_of-result c = record { low = none_up_to; few = omega arith }
