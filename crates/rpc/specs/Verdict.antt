-- "Deny rules are judged first, then allow rules; the answer names the list and the first matching rule in it (numbered from 0), or default deny."
use Rattle.std.specs.Prelude.{Bool, true, false, List, [], ◌∷◌, ℕ, suc}
use Rattle.std.proofs.Math.Option.{Option, none, some}
use Rattle.text.specs.Test.{◌and◌, whether◌then◌else◌, all, any}
use Rattle.text.specs.String.{Str}
use Rattle.policy.specs.Policy.{Header, Rule, Policy}
use Rattle.rpc.specs.Pattern.{matches}
use Rattle.rpc.specs.Request.{Line, Request, header_value}
use Rattle.rpc.specs.Answer.{Verdict}
use Rattle.rpc.specs.Answer.{Refused, Denied, Permitted, Default}

-- "Entries of a list are alternatives"; an empty list checks nothing
unfoldable pub listed : List Str → Str → Bool
listed [] v = true
listed (p ∷ ps) v = any (λ (q : Str). matches q v) (p ∷ ps)

-- "Entries of a list are alternatives"; `values` is never empty
unfoldable pub header_matches : List Line → Header → Bool
header_matches lines h = any (λ (p : Str). matches p (header_value h.key lines)) h.values

-- "headers must all match"
unfoldable pub rule_matches : Request → Rule → Bool
rule_matches r u = listed u.principals r.identity and listed u.paths r.path and all (header_matches r.headers) u.headers

-- the number of the first that passes, counted from k
unfoldable pub first_from : {A : Type 0} → ℕ → (A → Bool) → List A → Option ℕ
first_from k f [] = none
first_from k f (x ∷ xs) = whether f x then some k else first_from (suc k) f xs

-- by the first allow rule that matches
unfoldable pub allowed : Option ℕ → Verdict
allowed none = Default
allowed (some n) = Permitted n

-- by the first deny rule that matches; else by the first allow rule
unfoldable pub decided : Option ℕ → Option ℕ → Verdict
decided none allow = allowed allow
decided (some n) allow = Denied n

unfoldable pub verdict : Policy → Request → Verdict
verdict p r = decided (first_from 0 (rule_matches r) p.deny) (first_from 0 (rule_matches r) p.allow)

-- the action: "default deny"
unfoldable pub permits : Verdict → Bool
permits (Refused n) = false
permits (Denied n) = false
permits (Permitted n) = true
permits Default = false
