-- `top` looks at count after count.
use Rattle.season_parts.proofs.Tops.{Topping}
use Rattle.season_parts.proofs.ranking.top.Given as goal

abbrev pub invariant-loop-i : goal.invariant-loop-i
invariant-loop-i l = Topping l.counts l.best l.most l.i
