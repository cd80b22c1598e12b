use Rattle.rpc_request.proofs.Lines.{judging_start, judging_bad, judging_on, judging_done}
use Rattle.rpc_request.proofs.headers.are_lines.Goals as goal

pub loop-i-init : goal.loop-i-init
loop-i-init c = judging_start _

pub returns-in_default : goal.returns-in_default
returns-in_default c = judging_bad _ _ c.loop-i-test.true c.loop-i.invariant c.in_default.ensures

pub loop-i-preserved : goal.loop-i-preserved
loop-i-preserved c = judging_on _ _ c.loop-i-test.true c.loop-i.invariant _ c.in-Some.ensures

pub returns : goal.returns
returns c = judging_done _ _ c.loop-i.invariant c.loop-i-test.false
