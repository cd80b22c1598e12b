-- The RPC verdict: "Deny rules are judged first, then allow rules; the answer names the list and the first matching rule in it (numbered from 0), or
-- default deny." The definitions named here are those of the contracts of `burgee_policy_check` and `burgee_rpc_verdict`: a policy text is accepted where
-- `policy_refusal` gives no number, `policy_of` is the policy that it holds, and a request is accepted where `rpc_refusal` gives no number.
use Rattle.std.specs.Prelude.{ℕ, ◌≡◌, Bool, true, false, not, []}
use Rattle.std.proofs.Math.Option.{some}
use Rattle.text.specs.Test.{◌and◌, any}
use Rattle.text.specs.String.{Str}
use Rattle.text.specs.Refusal.{clear}
use Rattle.policy.specs.Policy.{Rule, Policy, policy_refusal, policy_of}
use Rattle.rpc.specs.Request.{rpc_refusal}
use Rattle.rpc.specs.Verdict.{rule_matches, permits}
use Rattle.rpc.specs.Call.{request, rpc_verdict}
use Rattle.rpc.specs.Answer.{Verdict}
use Rattle.rpc.specs.Answer.{Denied, Permitted, Default, Refused}
use Rattle.promises.specs.First.{First}

-- an accepted policy text and an accepted request
module _ (policy identity path headers : Str) (ok : policy_refusal policy ≡ clear) (fine : rpc_refusal identity path headers ≡ clear) where
  abbrev answer : Verdict
  answer = rpc_verdict policy identity path headers

  -- a rule matches the request
  abbrev hit : Rule → Bool
  hit = rule_matches (request identity path headers)

  pub record RpcPromise : Type 0 where
    -- the policy that the text holds
    pub held : Policy
    pub holds : policy_of policy ≡ some held
    -- a deny rule matches; else an allow rule matches; else default
    pub denied : any hit held.deny ≡ true → (n : ℕ) × (answer ≡ Denied n) × First hit n held.deny
    pub permitted : any hit held.deny ≡ false → any hit held.allow ≡ true → (n : ℕ) × (answer ≡ Permitted n) × First hit n held.allow
    pub by_default : any hit held.deny ≡ false → any hit held.allow ≡ false → answer ≡ Default
    -- permit and deny exclude each other
    pub permits_exactly : permits answer ≡ (not (any hit held.deny) and any hit held.allow)
    -- "An empty `allow_rules` is allowed and permits nobody."
    pub nobody : held.allow ≡ [] → permits answer ≡ false

-- any policy text and any request: "text before request"
module _ (policy identity path headers : Str) where
  pub record RpcRefusals : Type 0 where
    pub text : ¬ (policy_refusal policy ≡ clear) → rpc_verdict policy identity path headers ≡ Refused (policy_refusal policy)
    pub request_refused : policy_refusal policy ≡ clear → ¬ (rpc_refusal identity path headers ≡ clear)
        → rpc_verdict policy identity path headers ≡ Refused (rpc_refusal identity path headers)
