use Rattle.season_parts.proofs.Tops.{topping_start, topping_larger, topping_same, topping_done}
use Rattle.season_parts.proofs.ranking.top.Goals as goal
use Rattle.season_parts.proofs.ranking.top.Goals.{then-most-count, else-most-count}

pub loop-i-init : goal.loop-i-init
loop-i-init c = topping_start _ c.requires

pub loop-i-preserved : goal.loop-i-preserved
loop-i-preserved c =
    elim c.if-most-count.branch [
      | then-most-count w ↦ rw (w.best-is, w.most-is) (topping_larger _ _ _ _ c.loop-i.invariant c.loop-i-test.true w.if-most-count.true)
      | else-most-count w ↦ rw (w.best-is, w.most-is) (topping_same _ _ _ _ c.loop-i.invariant c.loop-i-test.true w.if-most-count.false)
    ]

pub returns-clause-value : goal.returns-clause-value
returns-clause-value c = topping_done _ _ _ _ c.loop-i.invariant c.loop-i-test.false
