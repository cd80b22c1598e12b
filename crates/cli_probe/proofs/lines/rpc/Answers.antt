-- `rpc` is the definition.
use Rattle.std.proofs.Common.{arith}
use Rattle.cli_policy.specs.Lines.{rpc_lines}
use Rattle.cli_probe.specs.Lines.{probe_lines}
use Rattle.cli_probe.proofs.lines.rpc.Goals as goal

pub returns-in-PermitAll : goal.returns-in-PermitAll
unfolding probe_lines
returns-in-PermitAll c = rw c.in-PermitAll.is c.of.ensures

pub returns-in-Judged : goal.returns-in-Judged
unfolding probe_lines
returns-in-Judged c = rw c.in-Judged.is c.decision.ensures

pub returns-in-Refused : goal.returns-in-Refused
unfolding probe_lines rpc_lines
returns-in-Refused c = rw c.in-Refused.is c.new.ensures
