-- The lines of an accepted table text in another order, each among its own kind: accepted too, and the table has the same groups, members
-- and rules in another order.
use mathlib.Core.Path.{◌≡◌, refl, sym, ap, ◌∙◌}
use mathlib.Core.Bool.{Bool, true, false, not}
use mathlib.Core.List.Memᴰ
use mathlib.Core.List.Permᴰ
use mathlib.Core.List.{List, [], ◌∷◌, ◌++◌, append-nil, filter_map, Permᴰ}
use mathlib.Core.Option.{Option, none, some, Option-elim}
use Prim.Native.Nat.{ℕ, suc, ◌≤◌}
use native.Mathlib.Omega.{arith}
use borrow.Author.Tests.{leb-true, le-ltb, ne_eqb}
use lib.Dec.{eqb, ltb, leb}
use lib.ListN.{length}
use Rattle.text.specs.Test.{◌and◌, ◌or◌, whether◌then◌else◌, ◌∈◌, twice}
use Rattle.text.specs.String.{Str, same, joined}
use Rattle.text.proofs.Tests.{clash, by, and_l, and_r, both, or_false_r, on_cons}
use Rattle.limits.specs.Limits.{max_table_text}
use Rattle.table_line.specs.Lines.{lines, onto}
use Rattle.table.specs.Table.{Rule}
use Rattle.table.specs.Frame.{Entry, version, group, member, rule}
use Rattle.table.specs.Refusal.{Line, not_hex, unreadable, reads, line_of, Earlier, with, after, kind_of, out_of_order, listed, first, strays, same_member, same_id}
use Rattle.table.specs.Text.{check, all_told, table, table_of}
use Rattle.table.specs.Checked.{Accepted}
use Rattle.path.specs.Refusal.{key_twice}
use Rattle.verdict.specs.Laws.{of_bytes, Reordered}
use Rattle.verdict.specs.Orderly.{Orderly}
use Rattle.verdict.proofs.Choose.{same_id_turned}
use Rattle.verdict.proofs.OfBytes.{path_of_bytes}
use Rattle.verdict.proofs.Reorder.{perm_mem, perm_any, perm_twice}
use Rattle.verdict_order.specs.Reordering.{read, entries, rising, ReorderedLines}
use Rattle.verdict_order.proofs.Permutations.{perm_length, perm_filter_map, perm_joined}
use Rattle.verdict_order.proofs.Clean.{clean, judge_clean, clean_judge, Readable, clean_readable, clean_entries_lem}
use Rattle.verdict_order.proofs.Fine.{own_twice, Own, Whole, Fine, ordered, as_group, as_member, as_rule, groups_in, members_in, rules_in, groups_turn, members_turn, rules_turn, astray, fine, unfaulted, same_turned, member_turned}

-- ---- the kinds

unfoldable as_version : Entry → Option Entry
as_version (version v t) = some (version v t)
as_version (group n) = none
as_version (member m) = none
as_version (rule r) = none

abbrev versions_in : List Entry → List Entry
versions_in es = filter_map as_version es

-- after the first line no version comes
no_version : (k : ℕ) (es : List Entry) → 1 ≤ k → ordered k es ≡ true → versions_in es ≡ []
unfolding ordered filter_map Option-elim as_version kind_of out_of_order whether◌then◌else◌ ◌or◌
no_version k [] h o = refl
no_version k (version v t ∷ es) h o = clash (and_l _ _ o) (rw (ne_eqb k 0 (λ z. omega arith)))
no_version k (group n ∷ es) h o = no_version 2 es (omega arith) (and_r _ _ o)
no_version k (member m ∷ es) h o = no_version 3 es (omega arith) (and_r _ _ o)
no_version k (rule r ∷ es) h o = no_version 4 es (omega arith) (and_r _ _ o)

-- the first line is the version
one_version : (e : Entry) (es : List Entry) → ordered 0 (e ∷ es) ≡ true → length (versions_in (e ∷ es)) ≡ 1
unfolding ordered filter_map Option-elim as_version kind_of out_of_order whether◌then◌else◌
one_version (version v t) es o = ap (λ (l : List Entry). suc (length l)) (no_version 1 es (omega arith) (and_r _ _ o))
one_version (group n) es o = clash (and_l _ _ o) refl
one_version (member m) es o = clash (and_l _ _ o) refl
one_version (rule r) es o = clash (and_l _ _ o) refl

-- where kinds never fall below 2, no version comes
high : (k : ℕ) (es : List Entry) → 2 ≤ k → rising k es ≡ true → versions_in es ≡ []
unfolding rising filter_map Option-elim as_version kind_of
high k [] h o = refl
high k (version v t ∷ es) h o = let z : k ≤ 1 = leb-true _ _ (and_l _ _ o) in absurd (omega arith)
high k (group n ∷ es) h o = high 2 es (omega arith) (and_r _ _ o)
high k (member m ∷ es) h o = high 3 es (omega arith) (and_r _ _ o)
high k (rule r ∷ es) h o = high 4 es (omega arith) (and_r _ _ o)

kept : (k kind : ℕ) → 1 ≤ k → 2 ≤ kind → leb k kind ≡ true → not (out_of_order k kind) ≡ true
unfolding out_of_order whether◌then◌else◌ ◌or◌
kept k kind h i l = rw (ne_eqb k 0 (λ z. omega arith), ne_eqb kind 1 (λ z. omega arith), le-ltb kind k (leb-true _ _ l))

rising_ordered : (k : ℕ) (es : List Entry) → 1 ≤ k → rising k es ≡ true → versions_in es ≡ [] → ordered k es ≡ true
unfolding rising ordered filter_map Option-elim as_version kind_of
rising_ordered k [] h o n = refl
rising_ordered k (version v t ∷ es) h o n = let z : ◌≡◌ {A = ℕ} 0 1 = cc in absurd (omega arith)
rising_ordered k (group g ∷ es) h o n = both _ _ (kept k 2 h (omega arith) (and_l _ _ o)) (rising_ordered 2 es (omega arith) (and_r _ _ o) n)
rising_ordered k (member m ∷ es) h o n = both _ _ (kept k 3 h (omega arith) (and_l _ _ o)) (rising_ordered 3 es (omega arith) (and_r _ _ o) n)
rising_ordered k (rule r ∷ es) h o n = both _ _ (kept k 4 h (omega arith) (and_l _ _ o)) (rising_ordered 4 es (omega arith) (and_r _ _ o) n)

none_left : {A : Type 0} (xs : List A) → length xs ≡ 0 → xs ≡ []
none_left [] e = refl
none_left (x ∷ xs) e = absurd (omega arith)

too_many : (k : ℕ) (es : List Entry) → 2 ≤ k → rising k es ≡ true → length (versions_in es) ≡ 1 → ⊥
too_many k es h o n = let z : length (versions_in es) ≡ 0 = ap length (high k es h o) in omega arith

first_ordered : (es : List Entry) → rising 0 es ≡ true → length (versions_in es) ≡ 1 → ordered 0 es ≡ true
unfolding rising ordered filter_map Option-elim as_version kind_of out_of_order whether◌then◌else◌
first_ordered [] o n = absurd (omega arith)
first_ordered (version v t ∷ es) o n = both _ _ refl (rising_ordered 1 es (omega arith) (and_r _ _ o) (none_left (versions_in es) (let z : length (versions_in es) ≡ 0 = omega arith in z)))
first_ordered (group g ∷ es) o n = absurd (too_many 2 es (omega arith) (and_r _ _ o) n)
first_ordered (member m ∷ es) o n = absurd (too_many 3 es (omega arith) (and_r _ _ o) n)
first_ordered (rule r ∷ es) o n = absurd (too_many 4 es (omega arith) (and_r _ _ o) n)

empty_again : (es : List Entry) → length es ≡ 0 → ordered 0 es ≡ true
unfolding ordered
empty_again [] e = refl
empty_again (x ∷ es) e = absurd (omega arith)

kinds_again : {es fs : List Entry} → Permᴰ es fs → ordered 0 es ≡ true → rising 0 fs ≡ true → ordered 0 fs ≡ true
kinds_again {es} {fs} p o r = go es p o
  where
    go : (xs : List Entry) → Permᴰ xs fs → ordered 0 xs ≡ true → ordered 0 fs ≡ true
    go [] p o = empty_again fs (sym (perm_length p))
    go (x ∷ xs) p o = first_ordered fs r (sym (perm_length (perm_filter_map as_version p)) ∙ one_version x xs o)

-- ---- the rest

listed_again : {g h : List Str} → Permᴰ g h → (n : Str) → listed g n ≡ true → listed h n ≡ true
unfolding listed
listed_again p n e = perm_any (same n) p e

astray_again : {g h : List Str} → Permᴰ g h → (r : Rule) → astray g r ≡ false → astray h r ≡ false
unfolding astray ◌and◌
astray_again {g} {h} p r e =
    by r.by_group
    (λ u. let e' = rw u at e in
    rw u (by (listed g r.subject) (λ v. rw (listed_again p r.subject v)) (λ v. clash refl (rw v at e'))))
    (λ u. rw u)

fine_again : {es fs : List Entry} → Permᴰ es fs → rising 0 fs ≡ true → Fine first es → Fine first fs
unfolding first
fine_again {es} {fs} p r f =
    let g = perm_filter_map as_group p in
    let m = perm_filter_map as_member p in
    let u = perm_filter_map as_rule p in
    let w = f.whole in
    record {
      kinds = kinds_again p f.kinds r;
      own = λ e n. f.own e (perm_mem (Permᴰ.symm p) n);
      whole = record {
        few_groups = let k = perm_length g in omega (arith, w.few_groups, k);
        few_members = let k = perm_length m in omega (arith, w.few_members, k);
        few_rules = let k = perm_length u in omega (arith, w.few_rules, k);
        new_groups = perm_twice same same_turned g w.new_groups;
        new_members = perm_twice same_member member_turned m w.new_members;
        new_ids = perm_twice same_id same_id_turned u w.new_ids;
      };
      members_listed = λ x n. listed_again g x.group (f.members_listed x (perm_mem (Permᴰ.symm m) n));
      rules_listed = λ x n. astray_again g x (f.rules_listed x (perm_mem (Permᴰ.symm u) n));
    }

nothing_before : Whole first.groups first.members first.rules
unfolding first twice
nothing_before = record { few_groups = omega arith; few_members = omega arith; few_rules = omega arith; new_groups = refl; new_members = refl; new_ids = refl }

-- ---- over lines

lines_again : {xs ys : List Str} → Permᴰ xs ys → rising 0 (entries ys) ≡ true → clean first xs ≡ true → clean first ys ≡ true
lines_again {xs} {ys} p r h =
    let a = clean_readable first xs h in
    let b : Readable ys = λ l n. a l (perm_mem (Permᴰ.symm p) n) in
    let f = fine first (entries xs) nothing_before (sym (clean_entries_lem first xs a) ∙ h) in
    clean_entries_lem first ys b ∙ unfaulted first (entries ys) (fine_again (entries_perm p) r f)
  where
    entries_perm : Permᴰ xs ys → Permᴰ (entries xs) (entries ys)
    entries_perm q = unfold entries in perm_filter_map _ q

-- ---- over texts

-- the lines are the text
lines_joined : (s : Str) → joined (λ (l : Str). l) (lines s) ≡ s
unfolding lines
lines_joined [] = nothing_joined
  where
    nothing_joined : joined (λ (l : Str). l) [] ≡ []
    nothing_joined = unfold joined in refl
lines_joined (b ∷ s) = go (eqb b 10) (lines s) ∙ ap (λ (t : Str). b ∷ t) (lines_joined s)
  where
    go : (t : Bool) (ls : List Str) → joined (λ (l : Str). l) (onto t b ls) ≡ b ∷ joined (λ (l : Str). l) ls
    go true ls = unfold onto joined in refl
    go false [] = unfold onto joined in refl
    go false (l ∷ ls) = unfold onto joined in refl

as_long : (x y : Str) → Permᴰ (lines x) (lines y) → length x ≡ length y
as_long x y p = sym (ap length (lines_joined x)) ∙ perm_joined p ∙ ap length (lines_joined y)

-- an accepted text: neither too long nor empty, and its lines are clean
check_opens : (s : Str) → check s ≡ Accepted → (ltb max_table_text (length s) ≡ false) × (eqb (length s) 0 ≡ false) × (clean first (lines s) ≡ true)
unfolding check whether◌then◌else◌
check_opens s e =
    by (ltb max_table_text (length s))
    (λ u. let e' = rw u at e in let z : ◌≡◌ {A = ℕ} 0 1 = cc in absurd (omega arith))
    (λ u. by (eqb (length s) 0)
    (λ v. let e' = rw (u, v) at e in let z : ◌≡◌ {A = ℕ} 0 1 = cc in absurd (omega arith))
    (λ v. let e' = rw (u, v) at e in (u, v, judge_clean 1 first (lines s) e')))

check_closes : (s : Str) → ltb max_table_text (length s) ≡ false → eqb (length s) 0 ≡ false → clean first (lines s) ≡ true → check s ≡ Accepted
unfolding check whether◌then◌else◌
check_closes s u v h = rw (u, v) (clean_judge 1 first (lines s) h)

pub accepted_again : (x y : Str) → check x ≡ Accepted → ReorderedLines x y → check y ≡ Accepted
accepted_again x y e p =
    let o = check_opens x e in
    let l = as_long x y p.same in
    check_closes y (ap (ltb max_table_text) (sym l) ∙ o.0) (ap (λ (n : ℕ). eqb n 0) (sym l) ∙ o.1) (lines_again p.same p.kinds o.2)

-- all that lines tell is what their entries hold, each apart
abbrev ToldBy : List Entry → Earlier → Earlier → Type 0
ToldBy es b end = (end.groups ≡ b.groups ++ groups_in es) × (end.members ≡ b.members ++ members_in es) × (end.rules ≡ b.rules ++ rules_in es)

told_line : (b : Earlier) (x : Line) (ls : List Str) → ((c : Earlier) → ToldBy (entries ls) c (all_told c ls))
    → ToldBy (Option-elim (read x) (entries ls) (λ e. e ∷ entries ls)) b (all_told (after b x) ls)
unfolding after read Option-elim
told_line b not_hex ls h = h b
told_line b unreadable ls h = h b
told_line b (reads e) ls h =
    let t = h (with b e) in
    (t.0 ∙ groups_turn b e (entries ls), t.1 ∙ members_turn b e (entries ls), t.2 ∙ rules_turn b e (entries ls))

told : (b : Earlier) (ls : List Str) → ToldBy (entries ls) b (all_told b ls)
unfolding all_told entries filter_map
told b [] = (sym (append-nil b.groups), sym (append-nil b.members), sym (append-nil b.rules))
told b (l ∷ ls) = told_line b (line_of l) ls (λ c. told c ls)

told_table : (s : Str) → ((table_of s).groups ≡ groups_in (entries (lines s))) × ((table_of s).members ≡ members_in (entries (lines s))) × ((table_of s).rules ≡ rules_in (entries (lines s)))
unfolding table_of table first
told_table s = told first (lines s)

pub tables_reordered : (x y : Str) → ReorderedLines x y → Reordered (table_of x) (table_of y)
unfolding entries
tables_reordered x y p =
    let q = perm_filter_map (λ (l : Str). read (line_of l)) p.same in
    let t = told_table x in
    let u = told_table y in
    record {
      groups = rw (t.0, u.0) (perm_filter_map as_group q);
      members = rw (t.1, u.1) (perm_filter_map as_member q);
      rules = rw (t.2, u.2) (perm_filter_map as_rule q);
    }

-- what every accepted table is: no rule id twice, and each rule judged by itself, so no key twice in an element, and paths of bytes

own_rules : (es : List Entry) → ((e : Entry) → e ∈ es → Own e) → (r : Rule) → r ∈ rules_in es → Own (rule r)
unfolding filter_map Option-elim as_rule
own_rules [] h = λ r m. absurd (Memᴰ.not-nil m)
own_rules (version v t ∷ es) h = own_rules es (λ e m. h e (Memᴰ.tail m))
own_rules (group n ∷ es) h = own_rules es (λ e m. h e (Memᴰ.tail m))
own_rules (member n ∷ es) h = own_rules es (λ e m. h e (Memᴰ.tail m))
own_rules (rule r ∷ es) h = on_cons (λ (x : Rule). Own (rule x)) (h (rule r) (Memᴰ.head refl)) (own_rules es (λ e m. h e (Memᴰ.tail m)))

keys_once : (r : Rule) → Own (rule r) → key_twice r.path ≡ false
unfolding own_twice
keys_once r o = o.keys

of_bytes_lem : (r : Rule) → Own (rule r) → of_bytes r.path ≡ true
unfolding strays
of_bytes_lem r o = path_of_bytes r.path (or_false_r _ _ o.bytes)

module _ (x : Str) (e : check x ≡ Accepted) where
  accepted_fine : Fine first (entries (lines x))
  accepted_fine =
      let o = check_opens x e in
      fine first (entries (lines x)) nothing_before (sym (clean_entries_lem first (lines x) (clean_readable first (lines x) o.2)) ∙ o.2)

  accepted_own : (r : Rule) → r ∈ (table_of x).rules → Own (rule r)
  accepted_own = rw (told_table x).2 (own_rules (entries (lines x)) accepted_fine.own)

  -- no more groups, members and rules than the limits, and none twice
  pub accepted_whole : Whole (table_of x).groups (table_of x).members (table_of x).rules
  unfolding first
  accepted_whole = let t = told_table x in rw (t.0, t.1, t.2) accepted_fine.whole

  pub accepted_orderly : Orderly (table_of x)
  accepted_orderly = record { ids = accepted_whole.new_ids; keys = λ r m. keys_once r (accepted_own r m) }

  pub accepted_bytes : (r : Rule) → r ∈ (table_of x).rules → of_bytes r.path ≡ true
  accepted_bytes r m = of_bytes_lem r (accepted_own r m)
