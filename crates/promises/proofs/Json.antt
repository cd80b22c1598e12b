-- The promise on 30 and 31, kept.
use mathlib.Core.Path.{◌≡◌, refl, sym, ap, ◌∙◌, subst}
use mathlib.Core.Bool.{Bool, true, false}
use mathlib.Core.Option.{Option, none, some}
use Prim.Native.Nat.{ℕ, ◌≤◌, ◌<◌}
use native.Mathlib.Omega.{arith}
use lib.Dec.{ltb}
use lib.ListN.{length}
use borrow.Author.Tests.{ltb-true, ltb-false, lt-ltb, le-ltb}
use Rattle.limits.specs.Limits.{max_policy_text}
use Rattle.text.specs.Test.{whether◌then◌else◌}
use Rattle.text.specs.String.{Str}
use Rattle.text.specs.Refusal.{◌when◌else◌, clear}
use Rattle.text.proofs.Tests.{by}
use Rattle.json_grammar.specs.Json.{Json}
use Rattle.json_grammar.specs.JsonText.{JsonText}
use Rattle.json_grammar.specs.Parser.{parse}
use Rattle.json_grammar.proofs.Promises.{parse_sound, parse_complete, unambiguous}
use Rattle.json_tree.specs.Names.{repeats}
use Rattle.policy.specs.Schema.{policy_kind}
use Rattle.policy.specs.Policy.{rule_twice, policy_in, tree_refusal, parsed_refusal, policy_refusal, policy_of}
use Rattle.policy.proofs.Told.{Told, told_least, told_walk}
use Rattle.policy.proofs.Agree.{agrees}
use Rattle.promises.specs.Json.{IsJson, JsonPromise}

-- ---- the numbers of a tree

late_told : (u : Bool) → Told (38 when u else clear)
unfolding whether◌then◌else◌
late_told true = (omega arith, omega arith)
late_told false = (omega arith, omega arith)

-- a tree without a name twice gets 33 or more
tree_told : (j : Json) → repeats j ≡ false → Told (tree_refusal j)
unfolding tree_refusal
tree_told j e = told_least _ _ (subst Told (agrees policy_kind j e) (told_walk policy_kind j)) (late_told (rule_twice (policy_in j)))

above : (j : Json) → 32 ≤ (32 when repeats j else tree_refusal j)
unfolding whether◌then◌else◌
above j = by (repeats j) (λ h. rw h (omega arith)) (λ h. rw h (omega (arith, (tree_told j h).0)))

-- ---- the text

-- a number, and what the parser answers where it is given
data Answer (s : Str) : ℕ → Type 0 where
  no_tree : parse s ≡ none → Answer s 31
  a_tree : {n : ℕ} (j : Json) → parse s ≡ some j → 32 ≤ n → Answer s n

module _ (s : Str) where
  too_long : max_policy_text < length s → policy_refusal s ≡ 30
  unfolding policy_refusal whether◌then◌else◌
  too_long h = rw (lt-ltb max_policy_text (length s) h)

  fits : length s ≤ max_policy_text → policy_refusal s ≡ parsed_refusal (parse s)
  unfolding policy_refusal whether◌then◌else◌
  fits h = rw (le-ltb max_policy_text (length s) h)

  tree_judged : (j : Json) → length s ≤ max_policy_text → JsonText s j → policy_refusal s ≡ (32 when repeats j else tree_refusal j)
  unfolding parsed_refusal
  tree_judged j h t = fits h ∙ ap parsed_refusal (parse_complete t)

  by_tree : (o : Option Json) → parse s ≡ o → Answer s (parsed_refusal o)
  unfolding parsed_refusal
  by_tree none e = no_tree e
  by_tree (some j) e = a_tree j e (above j)

  never_30 : {n : ℕ} → Answer s n → n ≡ 30 → ⊥
  never_30 (no_tree e) h = omega arith
  never_30 (a_tree j e l) h = omega arith

  of_31 : {n : ℕ} → Answer s n → n ≡ 31 → parse s ≡ none
  of_31 (no_tree e) h = e
  of_31 (a_tree j e l) h = absurd (omega arith)

  no_json : parse s ≡ none → ¬ IsJson s
  no_json e t = let a = parse_complete t.1 in let z : ◌≡◌ {A = ℕ} 0 1 = cc in omega arith

  only_long : policy_refusal s ≡ 30 → max_policy_text < length s
  only_long e =
      by (ltb max_policy_text (length s)) (ltb-true max_policy_text (length s))
      (λ t. absurd (never_30 (by_tree (parse s) refl) (sym (fits (ltb-false max_policy_text (length s) t)) ∙ e)))

  only_unread : policy_refusal s ≡ 31 → (length s ≤ max_policy_text) × ¬ IsJson s
  only_unread e =
      by (ltb max_policy_text (length s)) (λ t. let i = too_long (ltb-true max_policy_text (length s) t) in absurd (omega arith))
      (λ t. let h = ltb-false max_policy_text (length s) t in (h, no_json (of_31 (by_tree (parse s) refl) (sym (fits h) ∙ e))))

  no_tree_read : ¬ IsJson s → (o : Option Json) → parse s ≡ o → parsed_refusal o ≡ 31
  unfolding parsed_refusal
  no_tree_read bad none e = refl
  no_tree_read bad (some j) e = absurd (bad (j, parse_sound s j e))

  policy_held : (j : Json) → policy_refusal s ≡ clear → JsonText s j → policy_of s ≡ some (policy_in j)
  unfolding policy_of whether◌then◌else◌
  policy_held j e t = rw (e, parse_complete t)

  pub json : JsonPromise s
  json = record {
    reads = λ j. (parse_sound s j, parse_complete);
    one_tree = λ j k. unambiguous;
    long = (only_long, too_long);
    unread = (only_unread, λ h. fits h.0 ∙ no_tree_read h.1 (parse s) refl);
    judged = tree_judged;
    holds = policy_held;
  }
