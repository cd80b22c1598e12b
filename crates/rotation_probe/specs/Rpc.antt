-- The RPC probe, for a record of kind 1.
use Rattle.std.specs.Prelude.{ℕ, eqb, length}
use Rattle.text.specs.Test.{whether◌then◌else◌}
use Rattle.text.specs.String.{Str}
use Rattle.text.specs.Refusal.{clear}
use Rattle.rpc.specs.Request.{rpc_refusal}
use Rattle.rpc.specs.Call.{rpc_verdict}
use Rattle.rpc.specs.Answer.{Refused}
use Rattle.rotation.specs.State.{text_in, InForce, Text, Factory}
use Rattle.rotation.specs.declared.Record.{Record}
use Rattle.rotation_probe.specs.Probe.{probed}
use Rattle.rotation_probe.specs.Answer.{RpcAnswer}
use Rattle.rotation_probe.specs.Answer.{PermitAll, Judged}

abbrev pub rpc_refused : ℕ → RpcAnswer
rpc_refused number = Judged (Refused number)

-- factory: "kind 1 permits all"; "Factory has no text to judge, but the request still is."
unfoldable pub factory_rpc : ℕ → RpcAnswer
factory_rpc number = whether eqb number clear then PermitAll else rpc_refused number

unfoldable pub rpc_on : Str → Str → Str → Str → InForce → RpcAnswer
rpc_on store identity path headers (Text slot len) = Judged (rpc_verdict (text_in store slot len) identity path headers)
rpc_on store identity path headers Factory = factory_rpc (rpc_refusal identity path headers)

unfoldable pub probe_rpc : Record → Str → Str → Str → Str → RpcAnswer
probe_rpc r store identity path headers = probed rpc_refused (rpc_on store identity path headers) 1 r (length store)
