use native.Mathlib.Omega.{arith}
use mathlib.Core.Path.{refl}
use mathlib.Core.List.{[], ◌∷◌}
use lib.ListN.{replicate, set}
use Rattle.text.specs.Test.{all, ◌and◌}
use Rattle.season_example.proofs.Small.{up_to}
use Rattle.season_example.proofs.main.Goals as goal

pub invariant_of-tally : goal.invariant_of-tally
unfolding all ◌and◌
invariant_of-tally c =
    record {
      low = up_to 431 (set (set (set (set (replicate 256 0) 0 218) 1 97) 3 97) 5 1) ((315 ∷ 1 ∷ 11 ∷ []) ∷ (0 ∷ 97 ∷ 7 ∷ []) ∷ []) refl refl;
      few = omega arith;
    }
