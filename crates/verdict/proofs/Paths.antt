-- The laws of paths: covering is an order, and a path that two others cover is covered by their joined path.
use mathlib.Core.Path.{◌≡◌, refl, sym, ◌∙◌, subst}
use mathlib.Core.Logic.{◌⊎◌, inl, inr}
use mathlib.Core.Bool.{Bool, true, false, not}
use mathlib.Core.List.Memᴰ
use mathlib.Core.List.{List, [], ◌∷◌}
use borrow.Author.Tests.{not-true}
use Rattle.text.specs.Test.{◌and◌, ◌or◌, ◌∈◌, any, only, twice}
use Rattle.text.specs.String.{same}
use Rattle.text.proofs.Tests.{clash, by, bool_ext, and_l, and_r, both, or_l, or_r, or_cases, or_false_l, or_false_r, neither, same→≡, same_refl, ≡→same, all→, →all, any→, →any, none_any, only→, →only}
use Rattle.path.specs.Path.{Key, Elem, Path}
use Rattle.path.specs.Refusal.{same_name, key_twice}
use Rattle.verdict.specs.Cover.{wild, definite, holds, meets, covers}
use Rattle.verdict.specs.Join.{conflict, clashes, agrees, agree, meld, join}
use Rattle.verdict.specs.Pair.{meets_both, covers_both}
use Rattle.verdict.proofs.Twice.{→none, twice→, twice_only, twice_append}

-- ---- keys

key_path : {j k : Key} → j.name ≡ k.name → j.value ≡ k.value → j ≡ k
key_path p q = λ i. record { name = p i; value = q i }

holds→ : (ks : List Key) (k : Key) → holds ks k ≡ true → k ∈ ks
unfolding holds
holds→ ks k e =
    let r = any→ _ _ e in
    subst (λ (x : Key). x ∈ ks) (key_path (same→≡ _ _ (and_l _ _ r.2)) (same→≡ _ _ (and_r _ _ r.2))) r.1

→holds : (ks : List Key) (k : Key) → k ∈ ks → holds ks k ≡ true
unfolding holds
→holds ks k m = search (→any, both, same_refl)

same_name_turned : (j k : Key) → same_name j k ≡ true → same_name k j ≡ true
same_name_turned j k e = ≡→same (sym (same→≡ j.name k.name e))

named : (j k : Key) → same_name j k ≡ true → j.name ≡ k.name
named j k e = same→≡ j.name k.name e

→named : (j k : Key) → j.name ≡ k.name → same_name j k ≡ true
→named j k e = ≡→same e

-- two keys of one name that are in no conflict are one key
one_key : (j k : Key) → conflict j k ≡ false → j.name ≡ k.name → j ≡ k
unfolding conflict
one_key j k c e = key_path e (by (same j.value k.value) (same→≡ j.value k.value) (λ h. clash (both _ _ (≡→same e) (differs h)) c))
  where
    differs : same j.value k.value ≡ false → not (same j.value k.value) ≡ true
    differs h = rw h

no_conflict : (j k : Key) → (j.name ≡ k.name → j ≡ k) → conflict j k ≡ false
unfolding conflict
no_conflict j k h =
    by (same j.name k.name and not (same j.value k.value))
    (λ e. clash (≡→same (λ i. (h (same→≡ _ _ (and_l _ _ e)) i).value)) (not-true (same j.value k.value) (and_r _ _ e)))
    (λ e. e)

-- ---- elements

-- e has r's name, and gives what r gives
pub record Meets (r e : Elem) : Type 0 where
  pub name : r.name ≡ e.name
  pub gives : (k : Key) → k ∈ definite r → k ∈ definite e

pub meets→ : (r e : Elem) → meets r e ≡ true → Meets r e
unfolding meets
meets→ r e h = record { name = same→≡ _ _ (and_l _ _ h); gives = λ k m. holds→ _ k (all→ _ _ (and_r _ _ h) k m) }

→meets : {r e : Elem} → Meets r e → meets r e ≡ true
unfolding meets
→meets h = both _ _ (≡→same h.name) (→all _ _ (λ k m. →holds _ k (h.gives k m)))

-- r and p have one name, and no key of theirs is in conflict
record Agrees (r p : Elem) : Type 0 where
  name : r.name ≡ p.name
  fit : (j k : Key) → j ∈ definite r → k ∈ definite p → j.name ≡ k.name → j ≡ k

agrees→ : (r p : Elem) → agrees r p ≡ true → Agrees r p
unfolding agrees clashes
agrees→ r p h =
    record {
      name = same→≡ _ _ (and_l _ _ h);
      fit = λ j k m n. one_key j k (none_any (λ (i : Key). conflict i k) (definite r) (none_any (clashes (definite r)) (definite p) (not-true _ (and_r _ _ h)) n) m);
    }

→agrees : (r p : Elem) → Agrees r p → agrees r p ≡ true
unfolding agrees clashes
→agrees r p h =
    both _ _ (≡→same h.name)
    (free (any (clashes (definite r)) (definite p))
    (→none _ _ (λ k n. →none _ _ (λ j m. no_conflict j k (h.fit j k m n)))))
  where
    free : (b : Bool) → b ≡ false → not b ≡ true
    free b e = rw e

-- ---- covering is an order

pub covers_refl : (ps : Path) → covers ps ps ≡ true
unfolding covers
covers_refl [] = refl
covers_refl (p ∷ ps) = both _ _ (→meets (record { name = refl; gives = λ k m. m })) (covers_refl ps)

pub covers_trans : (xs ys zs : Path) → covers xs ys ≡ true → covers ys zs ≡ true → covers xs zs ≡ true
unfolding covers
covers_trans [] ys zs h k = refl
covers_trans (a ∷ xs) [] zs h k = clash h refl
covers_trans (a ∷ xs) (b ∷ ys) [] h k = clash k refl
covers_trans (a ∷ xs) (b ∷ ys) (c ∷ zs) h k =
    let m = meets→ a b (and_l _ _ h) in
    let n = meets→ b c (and_l _ _ k) in
    both _ _ (→meets (record { name = m.name ∙ n.name; gives = λ j i. n.gives j (m.gives j i) })) (covers_trans xs ys zs (and_r _ _ h) (and_r _ _ k))

-- ---- the join of two elements

meld_name : (r p : Elem) → (meld r p).name ≡ r.name
unfolding meld
meld_name r p = refl

meld_gives : (r p : Elem) (k : Key) → k ∈ definite (meld r p) → (k ∈ definite r) ⊎ (k ∈ definite p)
unfolding meld definite
meld_gives r p k m = go (Memᴰ.append_cases (definite r) (only→ _ _ m).0)
  where
    go : (k ∈ definite r) ⊎ (k ∈ only (λ (j : Key). not (holds (definite r) j)) (definite p)) → (k ∈ definite r) ⊎ (k ∈ definite p)
    go (inl h) = inl h
    go (inr h) = inr (only→ _ _ h).0

meld_left : (r p : Elem) (k : Key) → k ∈ definite r → k ∈ definite (meld r p)
unfolding meld definite
meld_left r p k m = →only _ (Memᴰ.append_left _ m) (only→ _ _ m).1

meld_right : (r p : Elem) (k : Key) → k ∈ definite p → k ∈ definite (meld r p)
unfolding meld definite
meld_right r p k m =
    by (holds (definite r) k) (λ e. meld_left r p k (holds→ _ _ e))
    (λ e. →only (λ (j : Key). not (wild j)) (Memᴰ.append_right (definite r) (→only (λ (j : Key). not (holds (definite r) j)) m (rw e))) (only→ _ _ m).1)

meld_once : (r p : Elem) → Agrees r p → twice same_name r.keys ≡ false → twice same_name p.keys ≡ false → twice same_name (meld r p).keys ≡ false
unfolding meld definite
meld_once r p a d e =
    twice_append same_name _ _ (twice_only same_name _ _ d) (twice_only same_name _ _ (twice_only same_name _ _ e))
    (λ j m k n. by (same_name j k)
    (λ h. let w = only→ (λ (i : Key). not (holds (definite r) i)) (definite p) n in
    clash (→holds (definite r) k (subst (λ (x : Key). x ∈ definite r) (a.fit j k m w.0 (named j k h)) m)) (not-true (holds (definite r) k) w.1))
    (λ h. h))

-- two elements that one element with each key once meets agree
meet_agree : (r p e : Elem) → twice same_name e.keys ≡ false → Meets r e → Meets p e → Agrees r p
unfolding definite
meet_agree r p e d m n =
    record {
      name = m.name ∙ sym n.name;
      fit = λ j k x y h. twice→ same_name same_name_turned e.keys d (only→ _ _ (m.gives j x)).0 (only→ _ _ (n.gives k y)).0 (→named j k h);
    }

-- ---- the join of two paths

first_once : (d : Elem) (ds : Path) → key_twice (d ∷ ds) ≡ false → twice same_name d.keys ≡ false
unfolding key_twice any
first_once d ds o = or_false_l _ _ o

rest_once : (d : Elem) (ds : Path) → key_twice (d ∷ ds) ≡ false → key_twice ds ≡ false
unfolding key_twice any
rest_once d ds o = or_false_r _ _ o

→once : (d : Elem) (ds : Path) → twice same_name d.keys ≡ false → key_twice ds ≡ false → key_twice (d ∷ ds) ≡ false
unfolding key_twice any
→once d ds x y = neither _ _ x y

pub covered_agree : (rs ps ds : Path) → covers rs ds ≡ true → covers ps ds ≡ true → key_twice ds ≡ false → agree rs ps ≡ true
unfolding covers agree
covered_agree [] ps ds x y o = refl
covered_agree (r ∷ rs) [] ds x y o = refl
covered_agree (r ∷ rs) (p ∷ ps) [] x y o = clash x refl
covered_agree (r ∷ rs) (p ∷ ps) (d ∷ ds) x y o =
    both _ _ (→agrees r p (meet_agree r p d (first_once d ds o) (meets→ r d (and_l _ _ x)) (meets→ p d (and_l _ _ y))))
    (covered_agree rs ps ds (and_r _ _ x) (and_r _ _ y) (rest_once d ds o))

pub join_covers : (rs ps ds : Path) → covers rs ds ≡ true → covers ps ds ≡ true → covers (join rs ps) ds ≡ true
unfolding covers join
join_covers [] ps ds x y = y
join_covers (r ∷ rs) [] ds x y = x
join_covers (r ∷ rs) (p ∷ ps) [] x y = x
join_covers (r ∷ rs) (p ∷ ps) (d ∷ ds) x y =
    let m = meets→ r d (and_l _ _ x) in
    let n = meets→ p d (and_l _ _ y) in
    both _ _ (→meets (record { name = meld_name r p ∙ m.name; gives = λ k h. go m n k (meld_gives r p k h) })) (join_covers rs ps ds (and_r _ _ x) (and_r _ _ y))
  where
    go : Meets r d → Meets p d → (k : Key) → (k ∈ definite r) ⊎ (k ∈ definite p) → k ∈ definite d
    go m n k (inl h) = m.gives k h
    go m n k (inr h) = n.gives k h

pub covers_join_left : (rs ps : Path) → covers rs (join rs ps) ≡ true
unfolding covers join
covers_join_left [] ps = refl
covers_join_left (r ∷ rs) [] = covers_refl (r ∷ rs)
covers_join_left (r ∷ rs) (p ∷ ps) = both _ _ (→meets (record { name = sym (meld_name r p); gives = meld_left r p })) (covers_join_left rs ps)

pub covers_join_right : (rs ps : Path) → agree rs ps ≡ true → covers ps (join rs ps) ≡ true
unfolding covers join agree
covers_join_right [] ps a = covers_refl ps
covers_join_right (r ∷ rs) [] a = refl
covers_join_right (r ∷ rs) (p ∷ ps) a =
    both _ _ (→meets (record { name = sym (meld_name r p ∙ (agrees→ r p (and_l _ _ a)).name); gives = meld_right r p })) (covers_join_right rs ps (and_r _ _ a))

pub join_once : (rs ps : Path) → agree rs ps ≡ true → key_twice rs ≡ false → key_twice ps ≡ false → key_twice (join rs ps) ≡ false
unfolding join agree
join_once [] ps a x y = y
join_once (r ∷ rs) [] a x y = x
join_once (r ∷ rs) (p ∷ ps) a x y =
    →once (meld r p) (join rs ps) (meld_once r p (agrees→ r p (and_l _ _ a)) (first_once r rs x) (first_once p ps y))
    (join_once rs ps (and_r _ _ a) (rest_once r rs x) (rest_once p ps y))

-- ---- the joined path, without making it

meets_both_lem : (s r p : Elem) → meets s (meld r p) ≡ meets_both s r p
unfolding meets meets_both
meets_both_lem s r p =
    bool_ext _ _
    (λ e. let m = meets→ s (meld r p) e in both _ _ (≡→same (m.name ∙ meld_name r p)) (→all _ _ (λ k i. down k (meld_gives r p k (m.gives k i)))))
    (λ e. →meets (record { name = same→≡ _ _ (and_l _ _ e) ∙ sym (meld_name r p); gives = λ k i. up k (or_cases _ _ (all→ _ _ (and_r _ _ e) k i)) }))
  where
    down : (k : Key) → (k ∈ definite r) ⊎ (k ∈ definite p) → (holds (definite r) k or holds (definite p) k) ≡ true
    down k (inl i) = or_l _ _ (→holds _ _ i)
    down k (inr i) = or_r _ _ (→holds _ _ i)

    up : (k : Key) → (holds (definite r) k ≡ true) ⊎ (holds (definite p) k ≡ true) → k ∈ definite (meld r p)
    up k (inl e) = meld_left r p k (holds→ _ _ e)
    up k (inr e) = meld_right r p k (holds→ _ _ e)

pub covers_both_lem : (ss rs ps : Path) → covers ss (join rs ps) ≡ covers_both ss rs ps
unfolding covers join covers_both
covers_both_lem [] rs ps = refl
covers_both_lem (s ∷ ss) [] ps = refl
covers_both_lem (s ∷ ss) (r ∷ rs) [] = refl
covers_both_lem (s ∷ ss) (r ∷ rs) (p ∷ ps) = rw (meets_both_lem s r p, covers_both_lem ss rs ps)
