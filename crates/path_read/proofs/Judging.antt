-- Names, keys and elements, judged as they are read.
use mathlib.Core.Path.{◌≡◌, refl, sym, ap, ◌∙◌}
use mathlib.Core.Bool.{Bool, true, false, not, ◌||◌, ◌&&◌}
use mathlib.Core.List.{List, [], ◌∷◌}
use mathlib.Core.Option.{none}
use Prim.Native.Nat.{ℕ, zero, suc, ◌+◌, ◌-◌, ◌≤◌, ◌<◌}
use native.Mathlib.Omega.{arith}
use borrow.Author.Tests.{eqb-true, ltb-true, ltb-false, lt-ltb, le-ltb, eq-eqb, ne_eqb}
use lib.Dec.{eqb, ltb}
use lib.ListN.{length, take, drop, get_or, length-drop}
use lib.Seq.{get_or-drop}
use Rattle.limits.specs.Limits.{max_elements, max_keys, max_string}
use Rattle.limits.specs.Sizes.{max_string_bytes, max_key_bytes, max_keys_bytes, max_elem_bytes}
use Rattle.text.specs.Test.{◌and◌, ◌or◌, whether◌then◌else◌, all, any, twice}
use Rattle.text.specs.Byte.{is_name}
use Rattle.text.specs.String.{Str, bytes, same, joined}
use Rattle.text.specs.Frame.{Parsed, got, unread, and_then, Reader, ◌>>=◌, ret, part, string_bytes, times}
use Rattle.text.specs.Steps.{Wrote}
use Rattle.text.specs.Refusal.{clear}
use Rattle.text.proofs.Filling.{wrote_long}
use Rattle.text.proofs.Tests.{by, clash, and_l, and_r, both, and_left, and_right}
use Rattle.text.proofs.Codec.{never_got, then_got, got_move}
use Rattle.text_search.specs.Search.{until}
use Rattle.text_search.proofs.Searching.{until_fits}
use Rattle.path.specs.Path.{Key, Elem, Path}
use Rattle.path.specs.Bytes.{counted, key_bytes, elem_bytes}
use Rattle.path.specs.Bytes as frames
use Rattle.path.specs.Refusal.{unsized, same_name, good_path}
use Rattle.path.specs.Spells.{whole}
use Rattle.path.specs.Walk.{no_name, unsized_by, name_refusal, elem_name_refusal, value_refusal, alone_refusal, elem_refusal, good, twice_in}
use Rattle.path.proofs.Bytes.{twice_bytes}
use Rattle.path.proofs.Classes.{size}
use Rattle.path.proofs.Refusals.{name_good, elem_name_good, key_good, keys_good, elem_good, path_good}
use Rattle.path_read.specs.TextReader.{literal, up_to, name, value, each, key, element}
use Rattle.path_read.specs.Steps.{name_run, pass, passing, good_name, good_value, good_key, distinct, good_keys, good_element, good_elements, Within, Room, MaybeStored, reached, Stores, stores, nothing}
use Rattle.std.specs.Prelude.{Some, None}
use Rattle.path_read.specs.declared.reader.Stored.{Stored}
use Rattle.path_read.proofs.Complete.{each_open, each_end, each_none}
use Rattle.path_read.proofs.Storing.{stored_to, stores_after, room_end, stored_rest, stored_string, string_longer}
use Rattle.path_read.proofs.Reading.{name_low, name_high, name_room, part_length, key_unequal, key_open}

-- ---- what passes

module _ {A : Type 0} (ok : A → Bool) where
  module _ {x : Parsed A} {a : A} {t : ℕ} (e : x ≡ got a t) where
    pub pass_good : ok a ≡ true → pass ok x ≡ got a t
    unfolding pass whether◌then◌else◌
    pass_good h = rw (e, h)

    pub pass_bad : ok a ≡ false → pass ok x ≡ unread
    unfolding pass whether◌then◌else◌
    pass_bad h = rw (e, h)

  pub pass_none : {x : Parsed A} → x ≡ unread → pass ok x ≡ unread
  unfolding pass
  pass_none e = rw e

  pub pass_got : (x : Parsed A) {a : A} {t : ℕ} → pass ok x ≡ got a t → (x ≡ got a t) × (ok a ≡ true)
  unfolding pass whether◌then◌else◌
  pass_got (got b u) e =
      by (ok b)
      (λ h. let e' = rw h at e in (e', got_move (λ c q. ok c ≡ true) e' h))
      (λ h. let e' = rw h at e in never_got refl e')
  pass_got unread e = never_got refl e

  -- a first part that does not pass lets nothing pass
  pub pass_first : {B : Type 0} (fine : B → Bool) (x : Parsed A) (k : A → ℕ → Parsed B) → ((a : A) (p : ℕ) (b : B) (t : ℕ) → k a p ≡ got b t → fine b ≡ true → ok a ≡ true)
      → pass ok x ≡ unread → pass fine (and_then x k) ≡ unread
  unfolding pass whether◌then◌else◌
  pass_first fine unread k h e = refl
  pass_first {B} fine (got a p) k h e = go (k a p) refl
    where
      go : (y : Parsed B) → k a p ≡ y → pass fine y ≡ unread
      go unread i = refl
      go (got b t) i =
          by (fine b)
          (λ f. let e' = rw (h a p b t i f) at e in never_got e' refl)
          (λ f. rw f)

  -- a part that passes where the whole does
  pub pass_then : {B : Type 0} (fine : B → Bool) (make : A → B) (x : Parsed A) → ((a : A) (t : ℕ) → x ≡ got a t → fine (make a) ≡ ok a)
      → pass fine (and_then x (λ a t. got (make a) t)) ≡ and_then (pass ok x) (λ a t. got (make a) t)
  unfolding pass whether◌then◌else◌
  pass_then fine make (got a t) h = rw (h a t refl) (by (ok a) (λ k. rw k) (λ k. rw k))
  pass_then fine make unread h = refl

  -- one test after another
  pass_both : (also : A → Bool) (x : Parsed A) → pass (λ a. ok a and also a) x ≡ pass also (pass ok x)
  unfolding pass whether◌then◌else◌ ◌and◌
  pass_both also (got a t) = by (ok a) (λ k. rw k) (λ k. rw k)
  pass_both also unread = refl

  pass_list : (x : A) (y : Parsed (List A)) → pass (all ok) (and_then y (λ xs t. got (x ∷ xs) t)) ≡ (whether ok x then and_then (pass (all ok) y) (λ xs t. got (x ∷ xs) t) else unread)
  unfolding pass all whether◌then◌else◌ ◌and◌
  pass_list x (got xs t) = by (ok x) (λ h. by (all ok xs) (λ k. rw (h, k)) (λ k. rw (h, k))) (λ h. rw h)
  pass_list x unread = by (ok x) (λ h. rw h) (λ h. rw h)

  pass_cons : (y : Parsed A) (k : ℕ → Parsed (List A))
      → pass (all ok) (and_then y (λ x p. and_then (k p) (λ xs t. got (x ∷ xs) t))) ≡ and_then (pass ok y) (λ x p. and_then (pass (all ok) (k p)) (λ xs t. got (x ∷ xs) t))
  unfolding pass whether◌then◌else◌
  pass_cons (got x p) k = pass_list x (k p) ∙ by (ok x) (λ h. rw h) (λ h. rw h)
  pass_cons unread k = refl

  pass_nothing : (at : ℕ) → pass (all ok) (got [] at) ≡ got [] at
  unfolding pass all whether◌then◌else◌
  pass_nothing at = refl

  then_same : (y : Parsed A) (j k : ℕ → Parsed (List A)) → ((p : ℕ) → j p ≡ k p)
      → and_then y (λ x p. and_then (j p) (λ xs t. got (x ∷ xs) t)) ≡ and_then y (λ x p. and_then (k p) (λ xs t. got (x ∷ xs) t))
  then_same (got x p) j k h = ap (λ (y : Parsed (List A)). and_then y (λ xs t. got (x ∷ xs) t)) (h p)
  then_same unread j k h = refl

  -- things that all pass are those that pass one by one
  pub each_pass : (b n : ℕ) (r : Reader A) (s : Str) (at : ℕ) → pass (all ok) (each b n r s at) ≡ each b n (passing ok r) s at
  each_pass b zero r s at = rw (each_none b r s at, each_none b (passing ok r) s at) (pass_nothing at)
  each_pass b (suc n) r s at =
      by (eqb (get_or s at 0) b)
      (λ h. rw (each_open b n r s at h, each_open b n (passing ok r) s at h)
      (pass_cons (r s (at + 1)) (λ p. each b n r s p) ∙ then_same (pass ok (r s (at + 1))) (λ p. pass (all ok) (each b n r s p)) (λ p. each b n (passing ok r) s p) (λ p. each_pass b n r s p)))
      (λ h. rw (each_end b (suc n) r s at h, each_end b (suc n) (passing ok r) s at h) (pass_nothing at))

each_few : {A : Type 0} (b n : ℕ) (r : Reader A) (s : Str) (at : ℕ) (xs : List A) (t : ℕ) → each b n r s at ≡ got xs t → length xs ≤ n
each_few b zero r s at xs t e = got_move (λ ys q. length ys ≤ 0) (sym (each_none b r s at) ∙ e) (omega arith)
each_few b (suc n) r s at xs t e =
    by (eqb (get_or s at 0) b)
    (λ h. let f = then_got (r s (at + 1)) _ (sym (each_open b n r s at h) ∙ e) in
    let g = then_got (each b n r s f.1) _ f.3 in
    got_move (λ ys q. length ys ≤ suc n) g.3 (omega (arith, each_few b n r s f.1 g.0 g.1 g.2)))
    (λ h. got_move (λ ys q. length ys ≤ suc n) (sym (each_end b (suc n) r s at h) ∙ e) (omega arith))

-- ---- read_name

run_plain : (s : Str) → any no_name (take (name_run s) s) ≡ false
unfolding until any whether◌then◌else◌ ◌or◌
run_plain [] = refl
run_plain (x ∷ s) = by (is_name x) (λ u. rw u (rw u (run_plain s))) (λ u. rw u)

-- a and b are no bytes of a name
module _ (a b : ℕ) (p : is_name a ≡ false) (q : is_name b ≡ false) where
  apart : (c x : ℕ) → is_name c ≡ false → is_name x ≡ true → eqb x c ≡ false
  apart c x h u = by (eqb x c) (λ e. clash u (ap is_name (eqb-true x c e) ∙ h)) (λ e. e)

  -- a name that a, b or nothing comes after
  run_whole : (s : Str) → (name_run s < length s → (eqb (get_or s (name_run s) 0) a || eqb (get_or s (name_run s) 0) b) ≡ true) → up_to a b s ≡ name_run s
  unfolding until whether◌then◌else◌
  run_whole [] h = refl
  run_whole (x ∷ s) h =
      by (is_name x)
      (λ u. let g = rw u at h in rw (u, apart a x p u, apart b x q u) (ap suc (run_whole s (λ k. g (omega arith)))))
      (λ u. let g = rw u at h in rw (u, g (omega arith)))

  -- another byte comes after it
  run_broken : (s : Str) → name_run s < length s → (eqb (get_or s (name_run s) 0) a || eqb (get_or s (name_run s) 0) b) ≡ false → any no_name (take (up_to a b s) s) ≡ true
  unfolding until any whether◌then◌else◌ ◌or◌
  run_broken [] k h = absurd (omega arith)
  run_broken (x ∷ s) k h =
      by (is_name x)
      (λ u. let g = rw u at h in
      let l = rw u at k in
      rw (apart a x p u, apart b x q u) (rw u (run_broken s (omega arith) g)))
      (λ u. let g = rw u at h in rw g (rw u))

either : (s t : Bool) → ((true && not s) && not t) ≡ false → (s || t) ≡ true
either true t e = refl
either false true e = refl
either false false e = clash refl e

neither : (s t : Bool) → not s ≡ true → not t ≡ true → (s || t) ≡ false
neither true t e f = clash e refl
neither false true e f = clash f refl
neither false false e f = refl

-- the name from `at` on ends at n, where c stands
module _ (a b : ℕ) (p : is_name a ≡ false) (q : is_name b ≡ false) (s : Str) (at n c : ℕ) (h : at ≤ length s) (e : n ≡ at + name_run (drop at s)) (i : c ≡ get_or s n 0) where
  here : get_or (drop at s) (name_run (drop at s)) 0 ≡ c
  here = get_or-drop at s (name_run (drop at s)) 0 ∙ ap (λ (m : ℕ). get_or s m 0) (sym e) ∙ sym i

  pub name_ends : ((ltb n (length s) && not (eqb c a)) && not (eqb c b)) ≡ false → n ≡ at + up_to a b (drop at s)
  name_ends t =
      let w : up_to a b (drop at s) ≡ name_run (drop at s) = run_whole a b p q (drop at s) (λ k. let l = lt-ltb n (length s) (omega (arith, length-drop at s)) in rw here (either (eqb c a) (eqb c b) (rw l at t))) in
      omega arith

  pub name_broken : ((ltb n (length s) && not (eqb c a)) && not (eqb c b)) ≡ true → good_name a b s at ≡ unread
  unfolding name whether◌then◌else◌
  name_broken t =
      let u = up_to a b (drop at s) in
      let v = and_left (ltb n (length s) && not (eqb c a)) (not (eqb c b)) t in
      let l : n < length s = ltb-true _ _ (and_left (ltb n (length s)) (not (eqb c a)) v) in
      let k : name_run (drop at s) < length (drop at s) = omega (arith, length-drop at s) in
      let f : (eqb c a || eqb c b) ≡ false = neither (eqb c a) (eqb c b) (and_right (ltb n (length s)) (not (eqb c a)) v) (and_right (ltb n (length s) && not (eqb c a)) (not (eqb c b)) t) in
      let g : any no_name (take u (drop at s)) ≡ true = run_broken a b p q (drop at s) k (rw here f) in
      let d : at + u - at ≡ u = omega arith in
      by (ltb max_string u)
      (λ v. pass_none (good name_refusal) (rw v))
      (λ v. pass_bad (good name_refusal) {a = part s at (at + u)} {t = at + u} (rw v) (name_good _ ∙ rw (d, g) (not_or (unsized (take u (drop at s))))))
    where
      not_or : (z : Bool) → not (z or true) ≡ false
      not_or z = unfold ◌or◌ in by z (λ y. rw y) (λ y. rw y)

  module _ (m : n ≡ at + up_to a b (drop at s)) where
    sized : unsized (part s at n) ≡ unsized_by (n - at)
    sized = sym (size (part s at n)) ∙ ap unsized_by (sym (part_length s at n (omega arith) (omega (arith, until_fits no_name (drop at s), length-drop at s))))

    pub name_unsized : unsized_by (n - at) ≡ true → good_name a b s at ≡ unread
    unfolding name whether◌then◌else◌
    name_unsized t =
        let u = up_to a b (drop at s) in
        let k : at + u ≡ n = sym m in
        by (ltb max_string u)
        (λ v. pass_none (good name_refusal) (rw v))
        (λ v. pass_bad (good name_refusal) {a = part s at n} {t = n} (rw (v, k)) (name_good _ ∙ rw (sized, t) or_not))
      where
        or_not : not (true or any no_name (part s at n)) ≡ false
        or_not = unfold ◌or◌ in refl

    pub name_clear : unsized_by (n - at) ≡ false → good name_refusal (part s at n) ≡ true
    unfolding ◌or◌
    name_clear t =
        let d : n - at ≡ name_run (drop at s) = omega arith in
        name_good _ ∙ rw (sized, t, d) (ap not (run_plain (drop at s)))

pub few_bytes : (n : ℕ) → unsized_by n ≡ false → n ≤ max_string
few_bytes n t = ltb-false max_string n (by (ltb max_string n) (λ u. clash (ors (eqb n 0) (ltb max_string n) u) t) (λ u. u))
  where
    ors : (s t : Bool) → t ≡ true → (s || t) ≡ true
    ors true t e = refl
    ors false t e = e

-- the name of s from `at` to n ends there, and can be stored at `to` of d, after its length
pub record Named (a b : ℕ) (s : Str) (at n : ℕ) (d : List ℕ) (to : ℕ) : Type 0 where
  pub ends : n ≡ at + up_to a b (drop at s)
  pub few : n - at ≤ max_string
  pub long : n - at ≡ length (part s at n)
  pub room : to + 1 + (n - at) ≤ length d
  pub passes : good name_refusal (part s at n) ≡ true

pub name_known : {a b at n c to : ℕ} {s : Str} {d : List ℕ} → Room max_string_bytes 1 s at d to × (is_name a ≡ false) × (is_name b ≡ false)
    → n ≡ at + name_run (drop at s) → c ≡ get_or s n 0 → ((ltb n (length s) && not (eqb c a)) && not (eqb c b)) ≡ false → unsized_by (n - at) ≡ false
    → Named a b s at n d to
name_known {a} {b} {at} {n} {c} {to} {s} {d} x e i t u =
    let h = x.0.starts in
    let m = name_ends a b x.1 x.2 s at n c h e i t in
    let f = few_bytes (n - at) u in
    record {
      ends = m;
      few = f;
      long = part_length s at n (name_low a b s at n h m) (name_high a b s at n h m);
      room = name_room a b s at n h m to f d x.0;
      passes = name_clear a b x.1 x.2 s at n c h e i m u;
    }

-- ---- read_good_value

-- the value was stored, and f is its number
module _ {s : Str} {at : ℕ} {d : List ℕ} {to : ℕ} {d' : List ℕ} {r : MaybeStored} {v : Stored} (k : Room max_string_bytes 1 s at d to) (x : Stores max_string_bytes 1 string_bytes (value max_string) s at d to d' r) (e : r ≡ Some v) where
  pub value_starts : to + 1 ≤ v.end
  value_starts = let u = stored_to x e in string_longer d to u.0 d' v.end u.2

  value_room : v.end ≤ length d
  value_room = let u = stored_to x e in room_end max_string_bytes 1 s at d to k max_string_bytes 1 v.next v.end u.3 (omega (arith, value_starts)) (omega arith) (omega arith)

  pub value_ends : v.end ≤ length d'
  value_ends = let u = stored_to x e in omega (arith, value_room, wrote_long d to (string_bytes u.0) d' v.end u.2 (omega (arith, value_room, u.2.ends)))

  module _ (f : ℕ) (i : f ≡ value_refusal (part d' (to + 1) v.end)) where
    value_judged : f ≡ value_refusal (stored_to x e).0
    value_judged = let u = stored_to x e in i ∙ ap value_refusal (stored_string d to u.0 d' v.end u.2 value_room)

    pub value_bad : (f ≡ clear → ⊥) → Stores max_string_bytes 1 string_bytes good_value s at d to d' None
    value_bad h = nothing (pass_bad (good value_refusal) (stored_to x e).1 (ne_eqb _ clear (λ z. h (value_judged ∙ z))))

    pub value_stores : f ≡ clear → Stores max_string_bytes 1 string_bytes good_value s at d to d' (reached v.next v.end)
    value_stores h = let u = stored_to x e in stores (pass_good (good value_refusal) u.1 (eq-eqb _ clear (sym value_judged ∙ h))) u.2 u.3

-- ---- read_key

module _ (s : Str) (at : ℕ) where
  pub key_misnamed : good_name 61 61 s at ≡ unread → good_key s at ≡ unread
  unfolding key ◌>>=◌ ret
  key_misnamed e =
      pass_first (good name_refusal) (good alone_refusal) (name 61 61 s at) _
      (λ n p k t g f. let x = then_got (literal 61 s p) _ g in
      let y = then_got (value max_string s x.1) _ x.3 in
      named n k (got_move (λ j q. j.name ≡ n) y.3 refl) f)
      e
    where
      named : (n : Str) (k : Key) → k.name ≡ n → good alone_refusal k ≡ true → good name_refusal n ≡ true
      named n k i f = rw i at (and_l _ _ (sym (key_good k) ∙ f))

  module _ (n : Str) (m : ℕ) (e : good_name 61 61 s at ≡ got n m) where
    key_named : (name 61 61 s at ≡ got n m) × (good name_refusal n ≡ true)
    key_named = pass_got (good name_refusal) (name 61 61 s at) e

    pub key_ends : (get_or s m 0 ≡ 61 → ⊥) → good_key s at ≡ unread
    key_ends h = pass_none (good alone_refusal) (key_unequal s at n m key_named.0 h)

    module _ (h : get_or s m 0 ≡ 61) where
      key_is : good_key s at ≡ and_then (good_value s (m + 1)) (λ v t. got (record { name = n; value = v }) t)
      unfolding ◌and◌
      key_is =
          rw (key_open s at n m key_named.0 h)
          (pass_then (good value_refusal) (good alone_refusal) (λ v. record { name = n; value = v }) (value max_string s (m + 1)) (λ v t i. key_good _ ∙ rw key_named.1))

      pub key_stores : (d : List ℕ) (to : ℕ) (d' : List ℕ) (end : ℕ) (d'' : List ℕ) (r : MaybeStored) → Wrote d to (string_bytes n) d' end → Within max_string_bytes 1 s at m to end → end ≤ length d
          → Stores max_string_bytes 1 string_bytes good_value s (m + 1) d' end d'' r → Stores max_key_bytes 1 key_bytes good_key s at d to d'' r
      unfolding key_bytes
      key_stores d to d' end d'' r w b room x =
          stores_after (λ v. record { name = n; value = v }) (string_bytes n) max_string_bytes 1 max_string_bytes 1 max_key_bytes 1 s at m (m + 1) d to d' end d'' r key_is (λ v. refl) w b room (omega arith) (omega arith) x

-- ---- read_keys

-- r is what the stored keys are told to be
pub keys_twice : (d : List ℕ) (to : ℕ) (ks : List Key) (n : ℕ) (d' : List ℕ) (end : ℕ) (r : Bool) → Wrote d to (joined key_bytes ks) d' end → to + length (joined key_bytes ks) ≤ length d
    → length ks ≡ n → r ≡ twice_in (times n frames.key (part d' to end) 0) → r ≡ twice same_name ks
keys_twice d to ks n d' end r w h l e =
    let f : part d' to end ≡ joined key_bytes ks = let z : to + 0 ≡ to = omega arith in rw z at (stored_rest d to [] (joined key_bytes ks) d' end w h) in
    e ∙ rw (f, ← l) (twice_bytes ks)

-- ---- read_element

name_part : (a b : ℕ) (s : Str) (at : ℕ) (n : Str) (m : ℕ) → name a b s at ≡ got n m → n ≡ part s at m
unfolding name whether◌then◌else◌
name_part a b s at n m e =
    by (ltb max_string (up_to a b (drop at s)))
    (λ u. let e' = rw u at e in never_got refl e')
    (λ u. let e' = rw u at e in got_move (λ x q. x ≡ part s at q) e' refl)

module _ (s : Str) (at : ℕ) where
  -- a name that no good element has
  misnamed : (ok : Str → Bool) → ((e : Elem) → good elem_refusal e ≡ true → ok e.name ≡ true) → pass ok (name 47 91 s at) ≡ unread → good_element s at ≡ unread
  unfolding element ◌>>=◌ ret
  misnamed ok h e =
      pass_first ok (good elem_refusal) (name 47 91 s at) _
      (λ n p x t g f. let y = then_got (each 91 max_keys key s p) _ g in
      got_move (λ z q. good elem_refusal z ≡ true → ok n ≡ true) y.3 (λ i. h _ i) f)
      e

  pub element_misnamed : good_name 47 91 s at ≡ unread → good_element s at ≡ unread
  element_misnamed = misnamed (good name_refusal) (λ e f. and_l _ _ (sym (elem_name_good e.name) ∙ and_l _ _ (and_l _ _ (sym (elem_good e) ∙ f))))

  pub element_dots : (n : Str) (m : ℕ) (d : Bool) → name 47 91 s at ≡ got n m → d ≡ same (part s at m) (bytes "...") → d ≡ true → good_element s at ≡ unread
  element_dots n m d e i t =
      misnamed (λ x. not (same x (bytes "..."))) (λ x f. and_r _ _ (sym (elem_name_good x.name) ∙ and_l _ _ (and_l _ _ (sym (elem_good x) ∙ f))))
      (pass_bad (λ x. not (same x (bytes "..."))) e (rw (name_part 47 91 s at n m e) (ap not (sym i ∙ t))))

  module _ (n : Str) (m : ℕ) (e : name 47 91 s at ≡ got n m) (f : good name_refusal n ≡ true) (d : Bool) (i : d ≡ same (part s at m) (bytes "...")) (t : d ≡ false) where
    named : good elem_name_refusal n ≡ true
    named = elem_name_good n ∙ both _ _ f (rw (name_part 47 91 s at n m e) (ap not (sym i ∙ t)))

    judged : (ks : List Key) → length ks ≤ max_keys → good elem_refusal (record { name = n; keys = ks }) ≡ (all (good alone_refusal) ks and distinct ks)
    unfolding ◌and◌
    judged ks l = elem_good _ ∙ rw (named, le-ltb max_keys (length ks) l) (keys_good ks)

    pub element_is : good_element s at ≡ and_then (good_keys s m) (λ ks u. got (record { name = n; keys = ks }) u)
    unfolding element ◌>>=◌ ret
    element_is =
        rw (e, ← each_pass (good alone_refusal) 91 max_keys key s m, ← pass_both (all (good alone_refusal)) distinct (each 91 max_keys key s m))
        (pass_then (λ ks. all (good alone_refusal) ks and distinct ks) (good elem_refusal) (λ ks. record { name = n; keys = ks }) (each 91 max_keys key s m) (λ ks u g. judged ks (each_few 91 max_keys key s m ks u g)))

    pub element_stores : (d : List ℕ) (to : ℕ) (d' : List ℕ) (end : ℕ) (d'' : List ℕ) (r : MaybeStored) → Wrote d to (string_bytes n) d' end → Within max_string_bytes 1 s at m to end → end ≤ length d
        → Stores max_keys_bytes 1 (counted key_bytes) good_keys s m d' end d'' r → Stores max_elem_bytes 2 elem_bytes good_element s at d to d'' r
    unfolding elem_bytes
    element_stores d to d' end d'' r w b room x =
        stores_after (λ ks. record { name = n; keys = ks }) (string_bytes n) max_string_bytes 1 max_keys_bytes 1 max_elem_bytes 2 s at m m d to d' end d'' r element_is (λ ks. refl) w b room (omega arith) (omega arith) x

-- ---- transcribe

module _ (s : Str) where
  pub elements_bad : good_elements s 0 ≡ unread → whole s (each 47 max_elements element s 0) ≡ none
  unfolding whole pass whether◌then◌else◌ ◌and◌
  elements_bad e = go (each 47 max_elements element s 0) refl (each_pass (good elem_refusal) 47 max_elements element s 0 ∙ e)
    where
      go : (y : Parsed Path) → each 47 max_elements element s 0 ≡ y → pass (all (good elem_refusal)) y ≡ unread → whole s y ≡ none
      go unread i f = refl
      go (got p t) i f =
          by (all (good elem_refusal) p)
          (λ g. let f' = rw g at f in never_got f' refl)
          (λ g. rw (path_good p (each_few 47 max_elements element s 0 p t i), g) (by (eqb t (length s)) (λ z. rw z) (λ z. rw z)))

  pub elements_good : (p : Path) (t : ℕ) → good_elements s 0 ≡ got p t → (each 47 max_elements element s 0 ≡ got p t) × (good_path p ≡ true)
  elements_good p t e =
      let x = pass_got (all (good elem_refusal)) (each 47 max_elements element s 0) (each_pass (good elem_refusal) 47 max_elements element s 0 ∙ e) in
      (x.0, path_good p (each_few 47 max_elements element s 0 p t x.0) ∙ x.1)
