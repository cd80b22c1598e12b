use Rattle.text.proofs.Filling.{copy_turn, copy_done}
use Rattle.text.proofs.fill.copy.Goals as goal

pub loop-i-preserved : goal.loop-i-preserved
loop-i-preserved c = copy_turn _ _ _ _ _ c.loop-i.invariant c.loop-i-test.true

pub returns : goal.returns
returns c = copy_done _ _ _ _ _ c.loop-i.invariant c.loop-i-test.false
