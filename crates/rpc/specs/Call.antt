-- The answer of the RPC verdict, over the texts that it is given.
use Rattle.std.proofs.Math.Option.{Option, none, some}
use Rattle.std.specs.Prelude.{ℕ, eqb}
use Rattle.text.specs.Test.{whether◌then◌else◌, or_nothing}
use Rattle.text.specs.String.{Str}
use Rattle.text.specs.Refusal.{clear}
use Rattle.policy.specs.Policy.{Policy, policy_refusal, policy_of}
use Rattle.rpc.specs.Request.{Request, headers_of, rpc_refusal}
use Rattle.rpc.specs.Verdict.{verdict}
use Rattle.rpc.specs.Answer.{Verdict}
use Rattle.rpc.specs.Answer.{Refused, Default}

-- "A request has an identity (empty without a client certificate), a path, and header lines"
unfoldable pub request : Str → Str → Str → Request
request identity path headers = record { identity = identity; path = path; headers = or_nothing (headers_of headers) }

-- (an accepted text stands for a policy, so the first case does not arise)
unfoldable pub verdict_by : Option Policy → Request → Verdict
verdict_by none r = Default
verdict_by (some p) r = verdict p r

-- a refusal number comes before an answer
unfoldable pub refused_else : ℕ → Verdict → Verdict
refused_else number v = whether eqb number clear then v else Refused number

-- "text before request, and in each the smallest number"
unfoldable pub rpc_verdict : Str → Str → Str → Str → Verdict
rpc_verdict policy identity path headers =
    refused_else (policy_refusal policy) (refused_else (rpc_refusal identity path headers) (verdict_by (policy_of policy) (request identity path headers)))
