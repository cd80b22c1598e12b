-- No rule name of an accepted policy is longer than a line shows.
use Prim.Native.Nat.{ℕ, zero, suc, ◌≤◌, ◌<◌}
use native.Mathlib.Omega.{arith}
use borrow.Author.Tests.{eqb-true, ltb-true, ltb-false, le-ltb}
use mathlib.Core.Path.{◌≡◌, refl}
use mathlib.Core.Bool.{Bool, true, false}
use mathlib.Core.List.{[], map}
use mathlib.Core.Option
use mathlib.Core.Option.{Option, none, some, Option-elim}
use lib.Dec.{eqb, ltb}
use lib.ListN.{length}
use Rattle.limits.specs.Limits.{max_policy_text, max_policy_string}
use Rattle.text.specs.Test.{◌and◌, ◌or◌, whether◌then◌else◌}
use Rattle.text.specs.String.{Str, bytes, same}
use Rattle.text.specs.Refusal.{◌when◌else◌, clear}
use Rattle.text.proofs.Tests.{by, or_false_l, same→≡}
use Rattle.text_affix.specs.Affix.{empty}
use Rattle.json_grammar.specs.Json.{Json, jnull, jtrue, jfalse, jnumber, jstring, jlist, jobject, Values, vnil, vcons, Members, mnil, mcons, list_of, members_of}
use Rattle.json_grammar.specs.Parser.{parse}
use Rattle.json_tree.specs.Names.{repeats, names_of}
use Rattle.policy_limit.specs.Size.{least, size_refusal}
use Rattle.policy_limit.specs.declared.Row.TheVariants.{Rules}
use Rattle.policy.specs.Schema.{fields, item_kind, kind_in, kind_named}
use Rattle.policy.specs.declared.schema.Role.TheVariants.{Name}
use Rattle.policy.specs.declared.schema.Form.{Form}
use Rattle.policy.specs.declared.schema.Form.TheVariants.{Top, Rule}
use Rattle.policy.specs.declared.schema.Kind.{Kind}
use Rattle.policy.specs.declared.schema.Kind.TheVariants.{Text, Listing, Object}
use Rattle.policy.specs.Text.{backslashed, long, text_refusal}
use Rattle.policy.specs.Refusal.{missing, refusal_of, items_refusal, members_refusal}
use Rattle.policy.specs.Policy.{Policy, find, member, items, text, rule_in, policy_in, rule_twice, tree_refusal, parsed_refusal, policy_refusal, policy_of}
use Rattle.policy_facts.specs.Facts.{name_in, listed_name}
use Rattle.policy_facts.specs.declared.name.Listed.{Listed}
use Rattle.policy_facts.specs.declared.name.Listed.TheVariants.{Deny, Allow}
use Rattle.text_make.specs.Text.{up_to}
use Rattle.cli_policy.specs.Whole.{WholeNames}

-- ---- numbers: no part of what gets no number gets one

abbrev Clear : ℕ → Type 0
Clear n = clear ≤ n

least_both : (a b : ℕ) → Clear (least a b) → Clear a × Clear b
unfolding least whether◌then◌else◌
least_both a b h = by (ltb b a) (λ u. let k : clear ≤ b = rw u at h in let l = ltb-true b a u in (omega arith, k)) (λ u. let k : clear ≤ a = rw u at h in let l = ltb-false b a u in (k, omega arith))

when_not : (n m : ℕ) (t : Bool) → n < clear → Clear (n when t else m) → (t ≡ false) × Clear m
unfolding whether◌then◌else◌
when_not n m true l h = absurd (omega arith)
when_not n m false l h = (refl, h)

-- ---- a name

abbrev Short : Str → Type 0
Short s = length s ≤ max_policy_string

name_short : (s : Str) → Clear (text_refusal Name s) → Short s
unfolding text_refusal long
name_short s h =
    let a = when_not 34 _ (backslashed s) (omega arith) h in
    let b = when_not 35 _ (ltb max_policy_string (length s) or empty s) (omega arith) a.1 in
    ltb-false _ _ (or_false_l _ _ b.0)

text_short : (j : Json) → Clear (refusal_of (Text Name) j) → Short (text j)
unfolding refusal_of text
text_short jnull h = omega arith
text_short jtrue h = omega arith
text_short jfalse h = omega arith
text_short jnumber h = omega arith
text_short (jstring s) h = name_short s h
text_short (jlist l) h = omega arith
text_short (jobject m) h = omega arith

-- ---- a member

module _ (f : Form) (n : Str) (k : Kind) (named : kind_named f n ≡ some k) (P : Json → Type 0) (absent : P jnull) (each : (j : Json) → Clear (refusal_of k j) → P j) where
  found : (m : Members) → Clear (members_refusal f m) → P (find n m)
  unfolding members_refusal find whether◌then◌else◌ Option-elim
  found mnil h = absent
  found (mcons x j l) h =
      let b = least_both _ (members_refusal f l) h in
      by (same x n)
      (λ u. let e : x ≡ n = same→≡ x n u in
      let c : Clear (refusal_of k j) = rw (e, named) at b.0 in
      rw u (each j c))
      (λ u. rw u (found l b.1))

  in_object : (j : Json) → Clear (refusal_of (Object f) j) → P (member n j)
  unfolding refusal_of member
  in_object jnull h = absent
  in_object jtrue h = absent
  in_object jfalse h = absent
  in_object jnumber h = absent
  in_object (jstring s) h = absent
  in_object (jlist l) h = absent
  in_object (jobject m) h = found m (when_not 33 _ (missing f (names_of (members_of m))) (omega arith) h).1

-- ---- the rules of a list

name_kind : kind_named Rule (bytes "name") ≡ some (Text Name)
unfolding kind_in fields whether◌then◌else◌ same ◌and◌
name_kind = refl

rule_short : (j : Json) → Clear (refusal_of (Object Rule) j) → Short (text (member (bytes "name") j))
rule_short = in_object Rule (bytes "name") (Text Name) name_kind (λ j. Short (text j)) (unfold text in omega arith) text_short

all_short : (l : Values) → Clear (items_refusal (Object Rule) l) → (n : ℕ) → Short (name_in (map rule_in (list_of l)) n)
unfolding items_refusal name_in rule_in list_of
all_short vnil h n = omega arith
all_short (vcons j l) h zero = rule_short j (least_both _ (items_refusal (Object Rule) l) h).0
all_short (vcons j l) h (suc n) = all_short l (least_both (refusal_of (Object Rule) j) _ h).1 n

none_short : (n : ℕ) → Short (name_in [] n)
unfolding name_in
none_short n = omega arith

abbrev ListShort : Json → Type 0
ListShort j = (n : ℕ) → Short (name_in (map rule_in (items j)) n)

list_short : (j : Json) → Clear (refusal_of (Listing Rules) j) → ListShort j
unfolding refusal_of items item_kind
list_short jnull h = none_short
list_short jtrue h = none_short
list_short jfalse h = none_short
list_short jnumber h = none_short
list_short (jstring s) h = none_short
list_short (jlist l) h = all_short l (least_both (size_refusal Rules (length (list_of l))) _ h).1
list_short (jobject m) h = none_short

-- ---- a policy

deny_kind : kind_named Top (bytes "deny_rules") ≡ some (Listing Rules)
unfolding kind_in fields whether◌then◌else◌ same ◌and◌
deny_kind = refl

allow_kind : kind_named Top (bytes "allow_rules") ≡ some (Listing Rules)
unfolding kind_in fields whether◌then◌else◌ same ◌and◌
allow_kind = refl

no_list : ListShort jnull
unfolding items
no_list = none_short

policy_short : (j : Json) → Clear (tree_refusal j) → (rule : Listed) → Short (listed_name (some (policy_in j)) rule)
unfolding tree_refusal listed_name policy_in
policy_short j h (Deny n) = in_object Top (bytes "deny_rules") (Listing Rules) deny_kind ListShort no_list list_short j (least_both _ (38 when rule_twice (policy_in j) else clear) h).0 n
policy_short j h (Allow n) = in_object Top (bytes "allow_rules") (Listing Rules) allow_kind ListShort no_list list_short j (least_both _ (38 when rule_twice (policy_in j) else clear) h).0 n

none_listed : (rule : Listed) → Short (listed_name none rule)
unfolding listed_name
none_listed rule = omega arith

accepted_tree : (j : Json) → parsed_refusal (some j) ≡ clear → Clear (tree_refusal j)
unfolding parsed_refusal
accepted_tree j e = let h : Clear (32 when repeats j else tree_refusal j) = omega (arith, e) in (when_not 32 (tree_refusal j) (repeats j) (omega arith) h).1

-- the policy of what was parsed, where nothing refuses it
abbrev policy_from : Option Json → Option Policy
policy_from o = whether eqb (parsed_refusal o) clear then Option.map policy_in o else none

unparsed_short : (rule : Listed) → Short (listed_name (policy_from none) rule)
unfolding parsed_refusal whether◌then◌else◌
unparsed_short rule = none_listed rule

parsed_short : (j : Json) (rule : Listed) → Short (listed_name (policy_from (some j)) rule)
unfolding whether◌then◌else◌
parsed_short j rule =
    by (eqb (parsed_refusal (some j)) clear)
    (λ v. rw v (policy_short j (accepted_tree j (eqb-true _ _ v)) rule))
    (λ v. rw v (none_listed rule))

from_short : (o : Option Json) (rule : Listed) → Short (listed_name (policy_from o) rule)
from_short none rule = unparsed_short rule
from_short (some j) rule = parsed_short j rule

listed_short : (s : Str) (rule : Listed) → Short (listed_name (policy_of s) rule)
unfolding policy_of policy_refusal whether◌then◌else◌
listed_short s rule = by (ltb max_policy_text (length s)) (λ u. rw u (none_listed rule)) (λ u. rw u (from_short (parse s) rule))

whole : (s : Str) → Short s → up_to max_policy_string s ≡ s
unfolding up_to whether◌then◌else◌
whole s h = rw (le-ltb _ _ h)

pub whole_names : WholeNames
whole_names = record { shown = λ s rule. whole _ (listed_short s rule) }
