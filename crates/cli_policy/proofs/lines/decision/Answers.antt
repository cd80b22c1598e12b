-- `decision` is the definition.
use Rattle.cli_policy.specs.Lines.{rpc_lines}
use Rattle.cli_policy.proofs.lines.decision.Goals as goal

pub returns-in-Permitted : goal.returns-in-Permitted
unfolding rpc_lines
returns-in-Permitted c =
    rw c.in-Permitted.is c.by_rule.ensures

pub returns-in-Denied : goal.returns-in-Denied
unfolding rpc_lines
returns-in-Denied c =
    rw c.in-Denied.is c.by_rule-in-Denied.ensures

pub returns-in-Default : goal.returns-in-Default
unfolding rpc_lines
returns-in-Default c =
    rw c.in-Default.is c.of.ensures
