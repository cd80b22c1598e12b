-- Frames get no number exactly where tests hold that do not look at their order within a kind, and their kinds are in order.
use mathlib.Core.Path.{◌≡◌, refl, sym, subst}
use mathlib.Core.Bool.{Bool, true, false, not}
use mathlib.Core.List.Memᴰ
use mathlib.Core.List.{List, [], ◌∷◌, ◌++◌, filter_map, append_assoc, append-nil}
use mathlib.Core.Option.{Option, none, some, Option-elim}
use Prim.Native.Nat.{ℕ, ◌≤◌, ◌<◌}
use native.Mathlib.Omega.{arith}
use borrow.Author.Tests.{eqb-true, leb-false, lt-leb, lt-ltb, not-true, not-false, ne_eqb}
use lib.Dec.{eqb, ltb}
use lib.ListN.{length, length-append}
use Rattle.text.specs.Test.{◌and◌, ◌or◌, whether◌then◌else◌, ◌∈◌, any, twice}
use Rattle.text.specs.String.{Str, same}
use Rattle.text.specs.Refusal.{◌when◌else◌, clear}
use Rattle.text.proofs.Tests.{clash, by, and_l, and_r, both, or_l, or_r, or_false_l, or_false_r, neither, on_cons, none_any, same→≡, ≡→same}
use Rattle.limits.specs.Limits.{max_groups, max_members, max_rules, max_short_string}
use Rattle.path.specs.Refusal.{unsized, over_limit, key_twice}
use Rattle.table.specs.Table.{Member, Rule}
use Rattle.table.specs.Frame.{Entry, version, group, member, rule}
use Rattle.table.specs.Refusal.{reads, Earlier, kind_of, out_of_order, unsized_short, past_limit, strays, misplaces, same_member, same_id, repeats, listed, unlisted, refusal, with}
use Rattle.verdict.proofs.Choose.{same_id_turned}
use Rattle.verdict.proofs.Twice.{first_alone, rest_alone, twice_append}
use Rattle.verdict_order.proofs.Clean.{clean_entries}

-- ---- the chain of numbers

pub record Clear (a b c d e f : Bool) : Type 0 where
  pub four : a ≡ false
  pub five : b ≡ false
  pub six : c ≡ false
  pub seven : d ≡ false
  pub eight : e ≡ false
  pub nine : f ≡ false

chain : Bool → Bool → Bool → Bool → Bool → Bool → ℕ
chain a b c d e f = 4 when a else 5 when b else 6 when c else 7 when d else 8 when e else 9 when f else clear

never : {X : Type 0} (n : ℕ) → n < clear → eqb n clear ≡ true → X
never n h e = let z : n ≡ clear = eqb-true _ _ e in absurd (omega arith)

chain_clear : (a b c d e f : Bool) → eqb (chain a b c d e f) clear ≡ true → Clear a b c d e f
unfolding chain whether◌then◌else◌
chain_clear true b c d e f h = never 4 (omega arith) h
chain_clear false true c d e f h = never 5 (omega arith) h
chain_clear false false true d e f h = never 6 (omega arith) h
chain_clear false false false true e f h = never 7 (omega arith) h
chain_clear false false false false true f h = never 8 (omega arith) h
chain_clear false false false false false true h = never 9 (omega arith) h
chain_clear false false false false false false h = record { four = refl; five = refl; six = refl; seven = refl; eight = refl; nine = refl }

clear_chain : (a b c d e f : Bool) → Clear a b c d e f → eqb (chain a b c d e f) clear ≡ true
unfolding chain whether◌then◌else◌
clear_chain a b c d e f h = rw (h.four, h.five, h.six, h.seven, h.eight, h.nine)

abbrev ClearOf : Earlier → Entry → Type 0
ClearOf b e = Clear (out_of_order b.kind (kind_of e)) (past_limit b e) (strays e) (misplaces e) (repeats b e) (unlisted b e)

refusal_clear : (b : Earlier) (e : Entry) → eqb (refusal b (reads e)) clear ≡ true → ClearOf b e
unfolding refusal chain
refusal_clear b e h = chain_clear _ _ _ _ _ _ h

clear_refusal : (b : Earlier) (e : Entry) → ClearOf b e → eqb (refusal b (reads e)) clear ≡ true
unfolding refusal chain
clear_refusal b e h = clear_chain _ _ _ _ _ _ h

-- ---- tests of a frame by itself

unfoldable pub own_limit : Entry → Bool
own_limit (version v t) = unsized_short v
own_limit (group n) = unsized n
own_limit (member m) = unsized m.group or unsized m.user
own_limit (rule r) = ((unsized r.subject or unsized_short r.id) or ltb max_short_string (length r.origin)) or over_limit r.path

unfoldable pub own_twice : Entry → Bool
own_twice (version v t) = false
own_twice (group n) = false
own_twice (member m) = false
own_twice (rule r) = key_twice r.path

pub record Own (e : Entry) : Type 0 where
  pub limit : own_limit e ≡ false
  pub bytes : strays e ≡ false
  pub wildcards : misplaces e ≡ false
  pub keys : own_twice e ≡ false

-- ---- the kinds

unfoldable pub ordered : ℕ → List Entry → Bool
ordered last [] = true
ordered last (e ∷ es) = not (out_of_order last (kind_of e)) and ordered (kind_of e) es

-- ---- all the groups, members and rules, with those before

unfoldable pub as_group : Entry → Option Str
as_group (version v t) = none
as_group (group n) = some n
as_group (member m) = none
as_group (rule r) = none

unfoldable pub as_member : Entry → Option Member
as_member (version v t) = none
as_member (group n) = none
as_member (member m) = some m
as_member (rule r) = none

unfoldable pub as_rule : Entry → Option Rule
as_rule (version v t) = none
as_rule (group n) = none
as_rule (member m) = none
as_rule (rule r) = some r

abbrev pub groups_in : List Entry → List Str
groups_in es = filter_map as_group es

abbrev pub members_in : List Entry → List Member
members_in es = filter_map as_member es

abbrev pub rules_in : List Entry → List Rule
rules_in es = filter_map as_rule es

module _ (b : Earlier) (e : Entry) (es : List Entry) where
  pub groups_turn : (with b e).groups ++ groups_in es ≡ b.groups ++ groups_in (e ∷ es)
  groups_turn = go e
    where
      go : (x : Entry) → (with b x).groups ++ groups_in es ≡ b.groups ++ groups_in (x ∷ es)
      go (version v t) = unfold with filter_map Option-elim as_group in refl
      go (group n) = unfold with filter_map Option-elim as_group in append_assoc b.groups (n ∷ []) (groups_in es)
      go (member m) = unfold with filter_map Option-elim as_group in refl
      go (rule r) = unfold with filter_map Option-elim as_group in refl

  pub members_turn : (with b e).members ++ members_in es ≡ b.members ++ members_in (e ∷ es)
  members_turn = go e
    where
      go : (x : Entry) → (with b x).members ++ members_in es ≡ b.members ++ members_in (x ∷ es)
      go (version v t) = unfold with filter_map Option-elim as_member in refl
      go (group n) = unfold with filter_map Option-elim as_member in refl
      go (member m) = unfold with filter_map Option-elim as_member in append_assoc b.members (m ∷ []) (members_in es)
      go (rule r) = unfold with filter_map Option-elim as_member in refl

  pub rules_turn : (with b e).rules ++ rules_in es ≡ b.rules ++ rules_in (e ∷ es)
  rules_turn = go e
    where
      go : (x : Entry) → (with b x).rules ++ rules_in es ≡ b.rules ++ rules_in (x ∷ es)
      go (version v t) = unfold with filter_map Option-elim as_rule in refl
      go (group n) = unfold with filter_map Option-elim as_rule in refl
      go (member m) = unfold with filter_map Option-elim as_rule in refl
      go (rule r) = unfold with filter_map Option-elim as_rule in append_assoc b.rules (r ∷ []) (rules_in es)

-- ---- what is asked of all of them, whatever their order

unfoldable pub astray : List Str → Rule → Bool
astray groups r = r.by_group and not (listed groups r.subject)

pub record Whole (groups : List Str) (members : List Member) (rules : List Rule) : Type 0 where
  pub few_groups : length groups ≤ max_groups
  pub few_members : length members ≤ max_members
  pub few_rules : length rules ≤ max_rules
  pub new_groups : twice same groups ≡ false
  pub new_members : twice same_member members ≡ false
  pub new_ids : twice same_id rules ≡ false

pub record Fine (b : Earlier) (es : List Entry) : Type 0 where
  pub kinds : ordered b.kind es ≡ true
  pub own : (e : Entry) → e ∈ es → Own e
  pub whole : Whole (b.groups ++ groups_in es) (b.members ++ members_in es) (b.rules ++ rules_in es)
  pub members_listed : (m : Member) → m ∈ members_in es → listed (b.groups ++ groups_in es) m.group ≡ true
  pub rules_listed : (r : Rule) → r ∈ rules_in es → astray (b.groups ++ groups_in es) r ≡ false

-- ---- lists

any_left : {A : Type 0} (f : A → Bool) (xs ys : List A) → any f xs ≡ true → any f (xs ++ ys) ≡ true
unfolding any
any_left f [] ys h = clash h refl
any_left f (x ∷ xs) ys h = by (f x) (λ u. or_l _ _ u) (λ u. or_r _ _ (any_left f xs ys (rest u)))
  where
    rest : f x ≡ false → any f xs ≡ true
    rest u = by (any f xs) (λ v. v) (λ v. clash h (neither (f x) (any f xs) u v))

listed_more : (g h : List Str) (n : Str) → listed g n ≡ true → listed (g ++ h) n ≡ true
unfolding listed
listed_more g h n e = any_left (same n) g h e

astray_more : (g h : List Str) (r : Rule) → astray g r ≡ false → astray (g ++ h) r ≡ false
unfolding astray
astray_more g h r e =
    by r.by_group
    (λ u. let e' = rw u at e in
    rw u (go (listed_more g h r.subject (by (listed g r.subject) (λ v. v) (λ v. clash (both true (not (listed g r.subject)) refl (rw v)) e')))))
    (λ u. rw u (off (not (listed (g ++ h) r.subject))))
  where
    go : listed (g ++ h) r.subject ≡ true → (true and not (listed (g ++ h) r.subject)) ≡ false
    go l = unfold ◌and◌ in rw l

    off : (t : Bool) → (false and t) ≡ false
    off t = unfold ◌and◌ in refl

pub same_turned : (x y : Str) → same x y ≡ true → same y x ≡ true
same_turned x y e = ≡→same (sym (same→≡ x y e))

pub member_turned : (x y : Member) → same_member x y ≡ true → same_member y x ≡ true
unfolding same_member
member_turned x y e = both _ _ (same_turned x.group y.group (and_l _ _ e)) (same_turned x.user y.user (and_r _ _ e))

module _ {A : Type 0} (alike : A → A → Bool) (turned : (x y : A) → alike x y ≡ true → alike y x ≡ true) where
  flip_false : (x y : A) → alike x y ≡ false → alike y x ≡ false
  flip_false x y e = by (alike y x) (λ u. clash (turned y x u) e) (λ u. u)

  -- one more that is new
  snoc_new : (xs : List A) (y : A) → twice alike xs ≡ false → any (alike y) xs ≡ false → twice alike (xs ++ (y ∷ [])) ≡ false
  snoc_new xs y d h = twice_append alike xs (y ∷ []) d alone (λ x m. on_cons (λ (z : A). alike x z ≡ false) (flip_false y x (none_any (alike y) xs h m)) (λ z n. absurd (Memᴰ.not-nil n)))
    where
      alone : twice alike (y ∷ []) ≡ false
      alone = unfold twice any ◌or◌ in refl

  -- what comes after is new
  apart : (xs : List A) (y : A) (ys : List A) → twice alike (xs ++ (y ∷ ys)) ≡ false → any (alike y) xs ≡ false
  unfolding any
  apart [] y ys d = refl
  apart (x ∷ xs) y ys d =
      neither (alike y x) (any (alike y) xs) (flip_false x y (first_alone alike x (xs ++ (y ∷ ys)) d (inside xs))) (apart xs y ys (rest_alone alike x (xs ++ (y ∷ ys)) d))
    where
      inside : (zs : List A) → y ∈ zs ++ (y ∷ ys)
      inside [] = Memᴰ.head refl
      inside (z ∷ zs) = Memᴰ.tail (inside zs)

-- ---- frames that get no number are fine

own_of : (b : Earlier) (e : Entry) → ClearOf b e → Own e
own_of b e h = record { limit = size e h.five; bytes = h.six; wildcards = h.seven; keys = again e h.eight }
  where
    size : (x : Entry) → past_limit b x ≡ false → own_limit x ≡ false
    size (version v t) k = unfold past_limit own_limit in k
    size (group n) k = unfold past_limit own_limit in or_false_l _ _ k
    size (member m) k = unfold past_limit own_limit in or_false_l _ _ k
    size (rule r) k = unfold past_limit own_limit in
        (let p = or_false_l _ _ k in
        neither _ _ (neither _ _ (or_false_l _ _ p) (or_false_l _ _ (or_false_r (unsized r.subject or unsized_short r.id) _ p))) (or_false_r _ _ k))

    again : (x : Entry) → repeats b x ≡ false → own_twice x ≡ false
    again (version v t) k = unfold own_twice in refl
    again (group n) k = unfold own_twice in refl
    again (member m) k = unfold own_twice in refl
    again (rule r) k = unfold repeats own_twice in or_false_r _ _ k

abbrev Before : Earlier → Type 0
Before b = Whole b.groups b.members b.rules

one_longer : {A : Type 0} (xs : List A) (y : A) (n : ℕ) → length xs < n → length (xs ++ (y ∷ [])) ≤ n
one_longer xs y n h = omega (arith, length-append xs (y ∷ []))

module _ (b : Earlier) where
  group_room : (n : Str) → past_limit b (group n) ≡ false → length b.groups < max_groups
  unfolding past_limit
  group_room n h = leb-false _ _ (or_false_r (unsized n) _ h)

  member_room : (m : Member) → past_limit b (member m) ≡ false → length b.members < max_members
  unfolding past_limit
  member_room m h = leb-false _ _ (or_false_r (unsized m.group or unsized m.user) _ h)

  rule_room : (r : Rule) → past_limit b (rule r) ≡ false → length b.rules < max_rules
  unfolding past_limit
  rule_room r h = leb-false _ _ (or_false_r (ltb max_short_string (length r.origin)) _ (or_false_r (unsized r.subject or unsized_short r.id) _ (or_false_l _ (over_limit r.path) h)))

  group_new : (n : Str) → repeats b (group n) ≡ false → any (same n) b.groups ≡ false
  unfolding repeats
  group_new n h = h

  member_new : (m : Member) → repeats b (member m) ≡ false → any (same_member m) b.members ≡ false
  unfolding repeats
  member_new m h = h

  rule_new : (r : Rule) → repeats b (rule r) ≡ false → any (same_id r) b.rules ≡ false
  unfolding repeats
  rule_new r h = or_false_l (any (same_id r) b.rules) _ h

grow : (b : Earlier) (e : Entry) → Before b → ClearOf b e → Before (with b e)
unfolding with
grow b (version v t) w h = w
grow b (group n) w h = record {
  few_groups = one_longer b.groups n max_groups (group_room b n h.five);
  few_members = w.few_members;
  few_rules = w.few_rules;
  new_groups = snoc_new same same_turned b.groups n w.new_groups (group_new b n h.eight);
  new_members = w.new_members;
  new_ids = w.new_ids;
}
grow b (member m) w h = record {
  few_groups = w.few_groups;
  few_members = one_longer b.members m max_members (member_room b m h.five);
  few_rules = w.few_rules;
  new_groups = w.new_groups;
  new_members = snoc_new same_member member_turned b.members m w.new_members (member_new b m h.eight);
  new_ids = w.new_ids;
}
grow b (rule r) w h = record {
  few_groups = w.few_groups;
  few_members = w.few_members;
  few_rules = one_longer b.rules r max_rules (rule_room b r h.five);
  new_groups = w.new_groups;
  new_members = w.new_members;
  new_ids = snoc_new same_id same_id_turned b.rules r w.new_ids (rule_new b r h.eight);
}

with_kind : (b : Earlier) (e : Entry) → (with b e).kind ≡ kind_of e
unfolding with kind_of
with_kind b (version v t) = refl
with_kind b (group n) = refl
with_kind b (member m) = refl
with_kind b (rule r) = refl

-- what holds of the members after e, and of e's own where it is one
members_more : (P : Member → Type 0) (e : Entry) (es : List Entry) → ((m : Member) → e ≡ member m → P m) → ((m : Member) → m ∈ members_in es → P m)
    → (m : Member) → m ∈ members_in (e ∷ es) → P m
members_more P (version v t) es h k = unfold filter_map Option-elim as_member in k
members_more P (group n) es h k = unfold filter_map Option-elim as_member in k
members_more P (member m) es h k = unfold filter_map Option-elim as_member in on_cons P (h m refl) k
members_more P (rule r) es h k = unfold filter_map Option-elim as_member in k

rules_more : (P : Rule → Type 0) (e : Entry) (es : List Entry) → ((r : Rule) → e ≡ rule r → P r) → ((r : Rule) → r ∈ rules_in es → P r)
    → (r : Rule) → r ∈ rules_in (e ∷ es) → P r
rules_more P (version v t) es h k = unfold filter_map Option-elim as_rule in k
rules_more P (group n) es h k = unfold filter_map Option-elim as_rule in k
rules_more P (member m) es h k = unfold filter_map Option-elim as_rule in k
rules_more P (rule r) es h k = unfold filter_map Option-elim as_rule in on_cons P (h r refl) k

listed_here : (b : Earlier) (e : Entry) (m : Member) → unlisted b e ≡ false → e ≡ member m → listed b.groups m.group ≡ true
listed_here b e m h i = go (subst (λ (x : Entry). unlisted b x ≡ false) i h)
  where
    go : unlisted b (member m) ≡ false → listed b.groups m.group ≡ true
    go k = not-false _ (unfold unlisted in k)

astray_here : (b : Earlier) (e : Entry) (r : Rule) → unlisted b e ≡ false → e ≡ rule r → astray b.groups r ≡ false
astray_here b e r h i = go (subst (λ (x : Entry). unlisted b x ≡ false) i h)
  where
    go : unlisted b (rule r) ≡ false → astray b.groups r ≡ false
    go k = unfold astray in (unfold unlisted in k)

none_in : {A B : Type 0} (f : A → Option B) {x : B} → x ∈ filter_map f [] → ⊥
unfolding filter_map
none_in f m = Memᴰ.not-nil m

pub fine : (b : Earlier) (es : List Entry) → Before b → clean_entries b es ≡ true → Fine b es
unfolding clean_entries
fine b [] w h = record {
  kinds = unfold ordered in refl;
  own = λ e m. absurd (Memᴰ.not-nil m);
  whole = unfold filter_map in rw (append-nil, append-nil, append-nil) w;
  members_listed = λ m n. absurd (none_in as_member n);
  rules_listed = λ r n. absurd (none_in as_rule n);
}
fine b (e ∷ es) w h = step (refusal_clear b e (and_l _ _ h)) (λ v. fine (with b e) es v (and_r _ _ h))
  where
    step : ClearOf b e → (Before (with b e) → Fine (with b e) es) → Fine b (e ∷ es)
    step c next =
        let f = next (grow b e w c) in
        let k = f.kinds in
        let wh = f.whole in
        let ml = f.members_listed in
        let rl = f.rules_listed in
        record {
          kinds = unfold ordered in both _ _ (rw c.four) (rw (with_kind b e) at k);
          own = on_cons Own (own_of b e c) f.own;
          whole = rw (groups_turn b e es, members_turn b e es, rules_turn b e es) at wh;
          members_listed = members_more _ e es (λ m i. listed_more b.groups (groups_in (e ∷ es)) m.group (listed_here b e m c.nine i)) (rw (groups_turn b e es) at ml);
          rules_listed = rules_more _ e es (λ r i. astray_more b.groups (groups_in (e ∷ es)) r (astray_here b e r c.nine i)) (rw (groups_turn b e es) at rl);
        }

-- ---- what is fine gets no number

-- after a member or a rule no group comes
no_groups : (k : ℕ) (es : List Entry) → 3 ≤ k → ordered k es ≡ true → groups_in es ≡ []
unfolding ordered filter_map Option-elim as_group
no_groups k [] h o = refl
no_groups k (version v t ∷ es) h o = clash (and_l _ _ o) (first_kind k h)
  where
    first_kind : (k : ℕ) → 3 ≤ k → not (out_of_order k (kind_of (version v t))) ≡ false
    first_kind k h = unfold out_of_order kind_of whether◌then◌else◌ ◌or◌ in rw (ne_eqb k 0 (λ z. omega arith))
no_groups k (group n ∷ es) h o = clash (and_l _ _ o) (second_kind k h)
  where
    second_kind : (k : ℕ) → 3 ≤ k → not (out_of_order k (kind_of (group n))) ≡ false
    second_kind k h = unfold out_of_order kind_of whether◌then◌else◌ ◌or◌ in rw (ne_eqb k 0 (λ z. omega arith), lt-ltb 2 k (omega arith))
no_groups k (member m ∷ es) h o = no_groups 3 es (omega arith) (third_kind (and_r _ _ o))
  where
    third_kind : ordered (kind_of (member m)) es ≡ true → ordered 3 es ≡ true
    third_kind k = unfold kind_of in k
no_groups k (rule r ∷ es) h o = no_groups 4 es (omega arith) (fourth_kind (and_r _ _ o))
  where
    fourth_kind : ordered (kind_of (rule r)) es ≡ true → ordered 4 es ≡ true
    fourth_kind k = unfold kind_of in k

module _ (b : Earlier) (e : Entry) (es : List Entry) (f : Fine b (e ∷ es)) where
  its_own : Own e
  its_own = f.own e (Memᴰ.head refl)

  in_order : out_of_order b.kind (kind_of e) ≡ false
  unfolding ordered
  in_order = let k = f.kinds in not-true _ (and_l _ _ k)

  rest_ordered : ordered (kind_of e) es ≡ true
  unfolding ordered
  rest_ordered = let k = f.kinds in and_r _ _ k

shorter : {A : Type 0} (xs : List A) (y : A) (ys : List A) (n : ℕ) → length (xs ++ (y ∷ ys)) ≤ n → length xs < n
shorter xs y ys n h = omega (arith, length-append xs (y ∷ ys))

past : (b : Earlier) (e : Entry) (es : List Entry) → Own e → Whole (b.groups ++ groups_in (e ∷ es)) (b.members ++ members_in (e ∷ es)) (b.rules ++ rules_in (e ∷ es)) → past_limit b e ≡ false
unfolding past_limit own_limit filter_map Option-elim as_group as_member as_rule
past b (version v t) es o w = o.limit
past b (group n) es o w = neither _ _ o.limit (lt-leb max_groups (length b.groups) (shorter b.groups n (groups_in es) max_groups w.few_groups))
past b (member m) es o w = neither _ _ o.limit (lt-leb max_members (length b.members) (shorter b.members m (members_in es) max_members w.few_members))
past b (rule r) es o w =
    let l = o.limit in
    let k = or_false_l _ (over_limit r.path) l in
    neither _ _
    (neither _ _ (or_false_l _ (ltb max_short_string (length r.origin)) k)
    (neither _ _ (or_false_r (unsized r.subject or unsized_short r.id) _ k) (lt-leb max_rules (length b.rules) (shorter b.rules r (rules_in es) max_rules w.few_rules))))
    (or_false_r ((unsized r.subject or unsized_short r.id) or ltb max_short_string (length r.origin)) _ l)

again : (b : Earlier) (e : Entry) (es : List Entry) → Own e → Whole (b.groups ++ groups_in (e ∷ es)) (b.members ++ members_in (e ∷ es)) (b.rules ++ rules_in (e ∷ es)) → repeats b e ≡ false
unfolding repeats own_twice filter_map Option-elim as_group as_member as_rule
again b (version v t) es o w = refl
again b (group n) es o w = apart same same_turned b.groups n (groups_in es) w.new_groups
again b (member m) es o w = apart same_member member_turned b.members m (members_in es) w.new_members
again b (rule r) es o w = neither _ _ (apart same_id same_id_turned b.rules r (rules_in es) w.new_ids) o.keys

-- the groups before a member or a rule are all of them
groups_then : (b : Earlier) (e : Entry) (es : List Entry) → 3 ≤ kind_of e → ordered (kind_of e) es ≡ true → groups_in (e ∷ es) ≡ groups_in es → b.groups ++ groups_in (e ∷ es) ≡ b.groups
groups_then b e es h o i = rw (i, no_groups (kind_of e) es h o) (append-nil b.groups)

missing : (b : Earlier) (e : Entry) (es : List Entry) → Fine b (e ∷ es) → unlisted b e ≡ false
unfolding unlisted filter_map Option-elim as_group as_member as_rule kind_of
missing b (version v t) es f = refl
missing b (group n) es f = refl
missing b (member m) es f =
    let l = f.members_listed m (Memᴰ.head refl) in
    let g = groups_then b (member m) es (omega arith) (rest_ordered b (member m) es f) refl in
    rw (rw g at l)
missing b (rule r) es f = unlisted_rule (rw (groups_then b (rule r) es (omega arith) (rest_ordered b (rule r) es f) refl) at (f.rules_listed r (Memᴰ.head refl)))
  where
    unlisted_rule : astray b.groups r ≡ false → (r.by_group and not (listed b.groups r.subject)) ≡ false
    unlisted_rule h = unfold astray in h

members_tail : (e : Entry) (es : List Entry) {m : Member} → m ∈ members_in es → m ∈ members_in (e ∷ es)
unfolding filter_map Option-elim as_member
members_tail (version v t) es n = n
members_tail (group g) es n = n
members_tail (member m) es n = Memᴰ.tail n
members_tail (rule r) es n = n

rules_tail : (e : Entry) (es : List Entry) {r : Rule} → r ∈ rules_in es → r ∈ rules_in (e ∷ es)
unfolding filter_map Option-elim as_rule
rules_tail (version v t) es n = n
rules_tail (group g) es n = n
rules_tail (member m) es n = n
rules_tail (rule r) es n = Memᴰ.tail n

fine_rest : (b : Earlier) (e : Entry) (es : List Entry) → Fine b (e ∷ es) → Fine (with b e) es
fine_rest b e es f = record {
  kinds = rw (with_kind b e) (rest_ordered b e es f);
  own = λ x m. f.own x (Memᴰ.tail m);
  whole = rw (groups_turn b e es, members_turn b e es, rules_turn b e es) f.whole;
  members_listed = λ m n. rw (groups_turn b e es) (f.members_listed m (members_tail e es n));
  rules_listed = λ r n. rw (groups_turn b e es) (f.rules_listed r (rules_tail e es n));
}

pub unfaulted : (b : Earlier) (es : List Entry) → Fine b es → clean_entries b es ≡ true
unfolding clean_entries
unfaulted b [] f = refl
unfaulted b (e ∷ es) f =
    let o = its_own b e es f in
    both _ _
    (clear_refusal b e (record { four = in_order b e es f; five = past b e es o f.whole; six = o.bytes; seven = o.wildcards; eight = again b e es o f.whole; nine = missing b e es f }))
    (unfaulted (with b e) es (fine_rest b e es f))
