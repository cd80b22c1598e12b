-- The RPC verdict's promise, kept.
use mathlib.Core.Path.{◌≡◌, refl, ap, ◌∙◌, subst}
use mathlib.Core.Bool.{Bool}
use mathlib.Core.List.{List, [], ◌∷◌}
use mathlib.Core.Option.{Option, none, some, map}
use Prim.Native.Nat.{ℕ, suc, ◌+◌}
use native.Mathlib.Omega.{arith}
use borrow.Author.Tests.{ne_eqb}
use lib.Dec.{ltb}
use lib.ListN.{length}
use Rattle.limits.specs.Limits.{max_policy_text}
use Rattle.text.specs.Test.{whether◌then◌else◌}
use Rattle.text.specs.String.{Str}
use Rattle.text.specs.Refusal.{clear}
use Rattle.text.proofs.Tests.{by}
use Rattle.json_grammar.specs.Json.{Json}
use Rattle.json_grammar.specs.Parser.{parse}
use Rattle.policy.specs.Policy.{Policy, parsed_refusal, policy_refusal, policy_in, policy_of}
use Rattle.rpc.specs.Request.{Request, rpc_refusal}
use Rattle.rpc.specs.Verdict.{rule_matches, first_from, allowed, decided, verdict, permits}
use Rattle.rpc.specs.Call.{request, verdict_by, refused_else, rpc_verdict}
use Rattle.rpc.specs.Answer.{Denied, Permitted, Refused}
use Rattle.rpc.proofs.Promises.{denied, permitted, by_default, permits_exactly, nobody}
use Rattle.promises.specs.First.{First, here, later}
use Rattle.promises.specs.Rpc.{RpcPromise, RpcRefusals}

-- ---- the number found is the first's

some_is : {m n : ℕ} → some m ≡ some n → m ≡ n
some_is e = cc

never_some : {X : Type 0} {n : ℕ} → none ≡ some n → X
never_some e = let z : ◌≡◌ {A = ℕ} 0 1 = cc in absurd (omega arith)

module _ {A : Type 0} (f : A → Bool) where
  first_at : (k n : ℕ) (l : List A) → first_from k f l ≡ some n → (m : ℕ) × (n ≡ k + m) × First f m l
  unfolding first_from whether◌then◌else◌
  first_at k n [] e = never_some e
  first_at k n (x ∷ l) e =
      by (f x) (λ t. let i : k ≡ n = some_is (rw t at e) in (0, omega arith, here t))
      (λ t. let r = first_at (suc k) n l (rw t at e) in (suc r.0, omega (arith, r.1), later t r.2))

  is_first : (n : ℕ) (l : List A) → first_from 0 f l ≡ some n → First f n l
  is_first n l e = let r = first_at 0 n l e in let i : r.0 ≡ n = omega (arith, r.1) in subst (λ (k : ℕ). First f k l) i r.2

module _ (p : Policy) (r : Request) where
  decided_by_lem : (n : ℕ) → verdict p r ≡ Denied n → first_from 0 (rule_matches r) p.deny ≡ some n
  unfolding verdict decided allowed
  decided_by_lem n e = go (first_from 0 (rule_matches r) p.deny) (first_from 0 (rule_matches r) p.allow) e
    where
      go : (d a : Option ℕ) → decided d a ≡ Denied n → d ≡ some n
      go none none e = let z : ◌≡◌ {A = ℕ} 0 1 = cc in absurd (omega arith)
      go none (some m) e = let z : ◌≡◌ {A = ℕ} 0 1 = cc in absurd (omega arith)
      go (some m) a e = let i : m ≡ n = cc in ap some i

  allowed_by : (n : ℕ) → verdict p r ≡ Permitted n → first_from 0 (rule_matches r) p.allow ≡ some n
  unfolding verdict decided allowed
  allowed_by n e = go (first_from 0 (rule_matches r) p.deny) (first_from 0 (rule_matches r) p.allow) e
    where
      go : (d a : Option ℕ) → decided d a ≡ Permitted n → a ≡ some n
      go none none e = let z : ◌≡◌ {A = ℕ} 0 1 = cc in absurd (omega arith)
      go none (some m) e = let i : m ≡ n = cc in ap some i
      go (some m) a e = let z : ◌≡◌ {A = ℕ} 0 1 = cc in absurd (omega arith)

-- ---- an accepted text holds a policy

tree_of_lem : (o : Option Json) → parsed_refusal o ≡ clear → (p : Policy) × (map policy_in o ≡ some p)
unfolding parsed_refusal
tree_of_lem none e = absurd (omega arith)
tree_of_lem (some j) e = (_, refl)

tree_judged : (s : Str) → policy_refusal s ≡ clear → parsed_refusal (parse s) ≡ clear
unfolding policy_refusal whether◌then◌else◌
tree_judged s e = by (ltb max_policy_text (length s)) (λ t. let i : 30 ≡ clear = rw t at e in absurd (omega arith)) (λ t. rw t at e)

policy_of_lem : (s : Str) → policy_refusal s ≡ clear → (p : Policy) × (policy_of s ≡ some p)
unfolding policy_of whether◌then◌else◌
policy_of_lem s e = rw e (tree_of_lem (parse s) (tree_judged s e))

-- ---- the promise

module _ (policy identity path headers : Str) (ok : policy_refusal policy ≡ clear) (fine : rpc_refusal identity path headers ≡ clear) where
  answers : (p : Policy) → policy_of policy ≡ some p → rpc_verdict policy identity path headers ≡ verdict p (request identity path headers)
  unfolding rpc_verdict refused_else verdict_by whether◌then◌else◌
  answers p e = rw (ok, fine, e)

  pub rpc_promise : RpcPromise policy identity path headers ok fine
  rpc_promise =
      let h = policy_of_lem policy ok in
      let p = h.0 in
      let q = request identity path headers in
      let a = answers p h.1 in
      record {
        held = p;
        holds = h.1;
        denied = λ d. let v = denied p q d in (v.0, a ∙ v.1, is_first (rule_matches q) v.0 p.deny (decided_by_lem p q v.0 v.1));
        permitted = λ d l. let v = permitted p q d l in (v.0, a ∙ v.1, is_first (rule_matches q) v.0 p.allow (allowed_by p q v.0 v.1));
        by_default = λ d l. a ∙ by_default p q d l;
        permits_exactly = ap permits a ∙ permits_exactly p q;
        nobody = λ e. ap permits a ∙ nobody p q e;
      }

-- ---- refusals

module _ (policy identity path headers : Str) where
  text_refused : ¬ (policy_refusal policy ≡ clear) → rpc_verdict policy identity path headers ≡ Refused (policy_refusal policy)
  unfolding rpc_verdict refused_else whether◌then◌else◌
  text_refused bad = rw (ne_eqb _ _ bad)

  request_refused : policy_refusal policy ≡ clear → ¬ (rpc_refusal identity path headers ≡ clear)
      → rpc_verdict policy identity path headers ≡ Refused (rpc_refusal identity path headers)
  unfolding rpc_verdict refused_else whether◌then◌else◌
  request_refused e bad = rw (e, ne_eqb (rpc_refusal identity path headers) clear bad)

  pub rpc_refusals : RpcRefusals policy identity path headers
  rpc_refusals = record { text = text_refused; request_refused = request_refused }
