-- `read_root` answers and leaves what the definitions say of the root's one byte.
use Rattle.path_read.proofs.Answers.{root_unfit, root_filled}
use Rattle.path_read.proofs.reader.read_root.Goals as goal

pub returns-then-out-eq0 : goal.returns-then-out-eq0
returns-then-out-eq0 c = root_unfit c.args.out.now c.if-out-eq0.true

pub returns : goal.returns
returns c = root_filled c.args.out.now c.if-out-eq0.false
