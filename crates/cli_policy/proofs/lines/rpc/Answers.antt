-- `rpc` is the definition.
use Rattle.cli_policy.specs.Lines.{rpc_lines}
use Rattle.cli_policy.proofs.lines.rpc.Goals as goal

pub returns-in-Ok : goal.returns-in-Ok
returns-in-Ok c = rw c.in-Ok.is c.decision.ensures

pub returns-in-Err : goal.returns-in-Err
unfolding rpc_lines
returns-in-Err c = rw c.in-Err.is c.new.ensures
