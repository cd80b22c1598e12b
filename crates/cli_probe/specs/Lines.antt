-- What is printed for an RPC probe, one fact a line.
use Rattle.text.specs.String.{Str, bytes}
use Rattle.rotation_probe.specs.Answer.{RpcAnswer}
use Rattle.rotation_probe.specs.Answer.{PermitAll, Judged}
use Rattle.cli_policy.specs.Lines.{rpc_lines}

-- factory names no rule
unfoldable pub probe_lines : Str → RpcAnswer → Str
probe_lines policy PermitAll = bytes "permit\nfactory\n"
probe_lines policy (Judged v) = rpc_lines policy v
