-- The answer as a theorem about lists: a deny rule matches, else an allow rule, else default (g_rpc's proposal A43, which is quoted).
use mathlib.Core.Path.{◌≡◌, refl, ap, ◌∙◌}
use mathlib.Core.Bool.{Bool, true, false, not}
use mathlib.Core.List.{List, [], ◌∷◌}
use mathlib.Core.Option.{none, some}
use Prim.Native.Nat.{ℕ, suc}
use Rattle.text.specs.Test.{◌and◌, ◌or◌, whether◌then◌else◌, ◌∈◌, any}
use Rattle.text.proofs.Tests.{by, clash, and_r, all→}
use Rattle.policy.specs.Policy.{Header, Rule, Policy}
use Rattle.rpc.specs.Request.{Request}
use Rattle.rpc.specs.Verdict.{header_matches, rule_matches, first_from, allowed, decided, verdict, permits}
use Rattle.rpc.specs.Answer.{Denied, Permitted, Default}

module _ {A : Type 0} (f : A → Bool) where
  found : (k : ℕ) (l : List A) → any f l ≡ true → (n : ℕ) × (first_from k f l ≡ some n)
  unfolding first_from any ◌or◌ whether◌then◌else◌
  found k [] h = clash h refl
  found k (x ∷ l) h = by (f x) (λ t. rw t (k, refl)) (λ t. rw t (found (suc k) l (rw t at h)))

  missed : (k : ℕ) (l : List A) → any f l ≡ false → first_from k f l ≡ none
  unfolding first_from any ◌or◌ whether◌then◌else◌
  missed k [] h = refl
  missed k (x ∷ l) h = by (f x) (λ t. clash (rw t) h) (λ t. rw t (missed (suc k) l (rw t at h)))

no_and : (b : Bool) → (b and false) ≡ false
unfolding ◌and◌
no_and true = refl
no_and false = refl

-- "headers must all match"
pub each_header : (r : Request) (u : Rule) (h : Header) → h ∈ u.headers → header_matches r.headers h ≡ false → rule_matches r u ≡ false
unfolding rule_matches
each_header r u h m e = by (rule_matches r u) (λ t. clash (all→ (header_matches r.headers) u.headers (and_r _ _ (and_r _ _ t)) h m) e) (λ t. t)

module _ (p : Policy) (r : Request) where
  -- "If a request matches any of the deny rules, then it will be denied."
  pub denied : any (rule_matches r) p.deny ≡ true → (n : ℕ) × (verdict p r ≡ Denied n)
  unfolding verdict decided
  denied h = let d = found (rule_matches r) 0 p.deny h in (d.0, rw d.1)

  -- "If none of the deny rules matches ..., the allow rules will be evaluated"; "if a match is found, the request will be allowed"
  pub permitted : any (rule_matches r) p.deny ≡ false → any (rule_matches r) p.allow ≡ true → (n : ℕ) × (verdict p r ≡ Permitted n)
  unfolding verdict decided allowed
  permitted d a = let x = found (rule_matches r) 0 p.allow a in (x.0, rw (missed (rule_matches r) 0 p.deny d, x.1))

  -- "If none of the allow rules matches, it will be denied."
  pub by_default : any (rule_matches r) p.deny ≡ false → any (rule_matches r) p.allow ≡ false → verdict p r ≡ Default
  unfolding verdict decided allowed
  by_default d a = rw (missed (rule_matches r) 0 p.deny d, missed (rule_matches r) 0 p.allow a)

  -- permit and deny exclude each other: a request is permitted exactly if no deny rule and some allow rule matches
  pub permits_exactly : permits (verdict p r) ≡ (not (any (rule_matches r) p.deny) and any (rule_matches r) p.allow)
  unfolding permits ◌and◌
  permits_exactly =
      by (any (rule_matches r) p.deny) (λ d. let x = denied d in rw (x.1, d))
      (λ d. by (any (rule_matches r) p.allow) (λ a. let x = permitted d a in rw (x.1, d, a)) (λ a. rw (by_default d a, d, a)))

  none_match : p.allow ≡ [] → any (rule_matches r) p.allow ≡ false
  unfolding any
  none_match e = rw e

  -- "An empty `allow_rules` is allowed and permits nobody."
  pub nobody : p.allow ≡ [] → permits (verdict p r) ≡ false
  unfolding ◌and◌
  nobody e = permits_exactly ∙ ap (λ (b : Bool). not (any (rule_matches r) p.deny) and b) (none_match e) ∙ no_and (not (any (rule_matches r) p.deny))
