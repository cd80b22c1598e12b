use Rattle.cli_console.proofs.Numbering.{none_passed, line_turn, line_here, line_none}
use Rattle.cli_console.proofs.lines.start.Goals as goal

pub loop-passed-init : goal.loop-passed-init
loop-passed-init c = none_passed _ _

pub returns-then-text-at : goal.returns-then-text-at
returns-then-text-at c = line_none c.loop-passed.invariant c.if-text-at.true

pub loop-passed-preserved : goal.loop-passed-preserved
loop-passed-preserved c = line_turn c.loop-passed.invariant c.loop-passed-test.true c.next-at.ensures

pub returns : goal.returns
returns c = line_here c.loop-passed.invariant c.loop-passed-test.false
