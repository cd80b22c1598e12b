-- `add` goes from place to place.
use Rattle.season_sum.proofs.Sums.{Adding}
use Rattle.season_sum.proofs.adding.add.Given as goal

abbrev pub invariant-loop-i : goal.invariant-loop-i
invariant-loop-i l = Adding l.initial.sums l.figures l.i l.sums
