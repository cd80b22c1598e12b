-- The text of a good path is read to that path.
use mathlib.Core.Path.{◌≡◌, refl, sym, ap, ◌∙◌}
use mathlib.Core.Bool.{Bool, true, false}
use mathlib.Core.List.Memᴰ
use mathlib.Core.List.{List, [], ◌∷◌, ◌++◌, append_assoc, append-nil}
use Prim.Native.Nat.{ℕ, zero, suc, ◌+◌, ◌-◌, ◌≤◌, ◌<◌}
use native.Mathlib.Omega.{arith}
use borrow.Author.Tests.{eqb-true, ltb-false, lt-ltb, le-ltb, eq-eqb, ne_eqb}
use lib.Dec.{eqb, ltb}
use lib.ListN.{length, drop, get_or, length-drop, get_or-eq_default}
use lib.Seq.{drop-drop, take_at, drop_at}
use Rattle.limits.specs.Limits.{max_elements, max_keys, max_string}
use Rattle.text.specs.Test.{◌or◌, whether◌then◌else◌, ◌∈◌, any}
use Rattle.text.specs.String.{Str, joined}
use Rattle.text.specs.Frame.{got, and_then, Reader, ◌>>=◌, ret, part}
use Rattle.text.proofs.Tests.{by, clash, or_false_l, or_false_r, none_any}
use Rattle.text.proofs.Codec.{Gives, then_gives, first_byte, joined_nil, joined_cons}
use Rattle.text_search.specs.Search.{until}
use Rattle.path.specs.Path.{Key, Elem, Path}
use Rattle.path.specs.Refusal.{unsized, key_over, elem_over, over_limit, outside_name, key_stray, elem_stray, stray_byte}
use Rattle.path_read.specs.Text.{is_mark, escaped, key_text, elem_text}
use Rattle.path_read.specs.TextReader.{literal, up_to, name, item, value, each, key, element, elements}
use Rattle.path_read.proofs.Sound.{escaped_plain, escaped_mark}

-- ---- names

-- a byte of a name is no separator
plain : (c b : ℕ) → outside_name c ≡ true → outside_name b ≡ false → eqb b c ≡ false
plain c b p q = by (eqb b c) (λ e. clash p (ap outside_name (sym (eqb-true _ _ e)) ∙ q)) (λ e. e)

-- a name, and then what comes after it
name_run_lem : (a b : ℕ) (n rest : Str) → outside_name a ≡ true → outside_name b ≡ true → any outside_name n ≡ false → up_to a b (n ++ rest) ≡ length n + up_to a b rest
unfolding until any whether◌then◌else◌
name_run_lem a b [] rest p q h = (let f : up_to a b rest ≡ 0 + up_to a b rest = omega arith in f)
name_run_lem a b (x ∷ n) rest p q h =
    let o = or_false_l (outside_name x) _ h in
    let ih = name_run_lem a b n rest p q (or_false_r (outside_name x) _ h) in
    rw (plain a x p o, plain b x q o) (omega arith)

pub sized : (s : Str) → unsized s ≡ false → length s ≤ max_string
unfolding unsized
sized s h = ltb-false _ _ (or_false_r (eqb (length s) 0) _ h)

module _ (s : Str) (at : ℕ) where
  name_gives : (a b : ℕ) (n rest : Str) → outside_name a ≡ true → outside_name b ≡ true → any outside_name n ≡ false → unsized n ≡ false → up_to a b rest ≡ 0
      → drop at s ≡ n ++ rest → Gives (name a b s at) s n rest
  unfolding name whether◌then◌else◌
  name_gives a b n rest p q h z stop e =
      let u : up_to a b (drop at s) ≡ length n = rw e (name_run_lem a b n rest p q h) ∙ (let f : length n + up_to a b rest ≡ length n = omega arith in f) in
      let k = sized n z in
      let d : (at + length n) - at ≡ length n = omega arith in
      let t : part s at (at + length n) ≡ n = rw (d, e) (take_at n rest (length n) refl) in (
        at + length n,
        rw (u, le-ltb max_string (length n) k, t),
        rw (← drop-drop (length n) at s, e) (drop_at n rest (length n) refl),
      )

  pub literal_gives : (b : ℕ) (rest : Str) → drop at s ≡ b ∷ rest → Gives (literal b s at) s b rest
  unfolding literal whether◌then◌else◌
  literal_gives b rest e = let f = first_byte s at b rest e in (at + 1, rw (eq-eqb (get_or s at 0) b f.1), f.2)

-- ---- values

mark_left : (b : ℕ) → is_mark b ≡ false → eqb b 93 ≡ false
mark_left b e = by (eqb b 93) (λ u. clash refl (rw u at e)) (λ u. u)

mark_right : (b : ℕ) → is_mark b ≡ false → eqb b 92 ≡ false
mark_right b e = by (eqb b 92) (λ u. clash refl (rw (mark_left b e, u) at e)) (λ u. u)

-- the byte that stands at `at` is no ], and the next byte of the value is read
module _ (s : Str) (at b : ℕ) (rest : Str) where
  plain_gives : is_mark b ≡ false → drop at s ≡ b ∷ rest → (eqb (get_or s at 0) 93 ≡ false) × Gives (item s at) s b rest
  unfolding item whether◌then◌else◌
  plain_gives m e =
      let f = first_byte s at b rest e in
      (rw f.1 (mark_left b m), (at + 1, rw (lt-ltb at (length s) f.0, f.1, mark_right b m), f.2))

  mark_gives : is_mark b ≡ true → drop at s ≡ 92 ∷ b ∷ rest → (eqb (get_or s at 0) 93 ≡ false) × Gives (item s at) s b rest
  unfolding item whether◌then◌else◌
  mark_gives m e =
      let f = first_byte s at 92 (b ∷ rest) e in
      let g = first_byte s (at + 1) b rest f.2 in
      let two : at + 2 ≡ at + 1 + 1 = omega arith in
      (rw f.1, (at + 2, rw (lt-ltb at (length s) f.0, f.1, g.1, m), rw two g.2))

  item_gives : drop at s ≡ escaped b ++ rest → (eqb (get_or s at 0) 93 ≡ false) × Gives (item s at) s b rest
  item_gives e = by (is_mark b) (λ m. mark_gives m (e ∙ rw (escaped_mark b m))) (λ m. plain_gives m (e ∙ rw (escaped_plain b m)))

pub value_closed : (n : ℕ) (s : Str) (at : ℕ) → eqb (get_or s at 0) 93 ≡ true → value n s at ≡ got [] (at + 1)
unfolding value whether◌then◌else◌
value_closed zero s at e = rw e
value_closed (suc n) s at e = rw e

pub value_open : (n : ℕ) (s : Str) (at : ℕ) → eqb (get_or s at 0) 93 ≡ false → value (suc n) s at ≡ and_then (item s at) (λ b p. and_then (value n s p) (λ v t. got (b ∷ v) t))
unfolding value whether◌then◌else◌ ◌>>=◌ ret
value_open n s at e = rw e

pub value_gives : (v : Str) (n : ℕ) (s : Str) (at : ℕ) (rest : Str) → length v ≤ n → drop at s ≡ joined escaped v ++ 93 ∷ rest → Gives (value n s at) s v rest
unfolding joined
value_gives [] n s at rest h e = let f = first_byte s at 93 rest e in (at + 1, value_closed n s at (eq-eqb _ _ f.1), f.2)
value_gives (b ∷ v) zero s at rest h e = absurd (omega arith)
value_gives (b ∷ v) (suc n) s at rest h e =
    let i = item_gives s at b (joined escaped v ++ 93 ∷ rest) (e ∙ append_assoc (escaped b) (joined escaped v) (93 ∷ rest)) in
    rw (value_open n s at i.0)
    (then_gives (item s at) _ s b _ _ _ i.1
    (λ p j. then_gives (value n s p) _ s v _ _ _ (value_gives v n s p rest (omega arith) j) (λ t k. (t, refl, k))))

-- ---- lists

pub each_open : {A : Type 0} (b n : ℕ) (r : Reader A) (s : Str) (at : ℕ) → eqb (get_or s at 0) b ≡ true
    → each b (suc n) r s at ≡ and_then (r s (at + 1)) (λ x p. and_then (each b n r s p) (λ xs t. got (x ∷ xs) t))
unfolding each whether◌then◌else◌ ◌>>=◌ ret
each_open b n r s at e = rw e

pub each_none : {A : Type 0} (b : ℕ) (r : Reader A) (s : Str) (at : ℕ) → each b 0 r s at ≡ got [] at
unfolding each
each_none b r s at = refl

pub each_end : {A : Type 0} (b n : ℕ) (r : Reader A) (s : Str) (at : ℕ) → eqb (get_or s at 0) b ≡ false → each b n r s at ≡ got [] at
unfolding each whether◌then◌else◌
each_end b zero r s at e = refl
each_end b (suc n) r s at e = rw e

-- what comes next does not start with b
starts : ℕ → Str → Bool
starts b [] = false
starts b (x ∷ s) = eqb x b

starts_not : (b : ℕ) (s : Str) (at : ℕ) (rest : Str) → 0 < b → starts b rest ≡ false → drop at s ≡ rest → eqb (get_or s at 0) b ≡ false
unfolding starts
starts_not b s at [] z h e =
    let l : length s - at ≡ 0 = sym (length-drop at s) ∙ ap length e in
    let g : get_or s at 0 ≡ 0 = get_or-eq_default s 0 (omega arith) in
    rw g (ne_eqb 0 b (λ x. omega arith))
starts_not b s at (x ∷ rest) z h e = rw (first_byte s at x rest e).1 h

-- things that each start with the byte b, and are read after it; `Good` is asked of each, and `Next` of what follows it
module _ {A : Type 0} (b : ℕ) (r : Reader A) (w : A → Str) (s : Str) (Good : A → Type 0) (Next : Str → Type 0) (z : 0 < b)
    (thing : (at : ℕ) (a : A) (rest : Str) → Good a → Next rest → drop at s ≡ w a ++ rest → (eqb (get_or s at 0) b ≡ true) × Gives (r s (at + 1)) s a rest)
    (again : (a : A) (rest : Str) → Next (w a ++ rest)) where
  next_joined : (xs : List A) (rest : Str) → Next rest → Next (joined w xs ++ rest)
  next_joined [] rest h = rw (joined_nil w) h
  next_joined (x ∷ xs) rest h = rw (joined_cons w x xs rest) (again x (joined w xs ++ rest))

  each_gives : (n : ℕ) (xs : List A) (at : ℕ) (rest : Str) → ((x : A) → x ∈ xs → Good x) → length xs ≤ n → Next rest → starts b rest ≡ false
      → drop at s ≡ joined w xs ++ rest → Gives (each b n r s at) s xs rest
  each_gives n [] at rest good l next stop e =
      let i = e ∙ ap (λ (x : Str). x ++ rest) (joined_nil w) in
      (at, each_end b n r s at (starts_not b s at rest z stop i), i)
  each_gives zero (x ∷ xs) at rest good l next stop e = absurd (omega arith)
  each_gives (suc n) (x ∷ xs) at rest good l next stop e =
      let t = thing at x (joined w xs ++ rest) (good x (Memᴰ.head refl)) (next_joined xs rest next) (e ∙ joined_cons w x xs rest) in
      rw (each_open b n r s at t.0)
      (then_gives (r s (at + 1)) _ s x _ _ _ t.1
      (λ p j. then_gives (each b n r s p) _ s xs _ _ _ (each_gives n xs p rest (λ y m. good y (Memᴰ.tail m)) (omega arith) next stop j) (λ q k. (q, refl, k))))

-- ---- keys and elements

abbrev GoodKey : Key → Type 0
GoodKey k = (key_over k ≡ false) × (key_stray k ≡ false)

abbrev GoodElem : Elem → Type 0
GoodElem e = (elem_over e ≡ false) × (elem_stray e ≡ false)

abbrev Anything : Str → Type 0
Anything rest = Unit {0}

key_tail : (n v rest : Str) → (n ++ (61 ∷ (v ++ 93 ∷ []))) ++ rest ≡ n ++ (61 ∷ (v ++ 93 ∷ rest))
key_tail n v rest = simp append_assoc

stops : (rest : Str) → up_to 61 61 (61 ∷ rest) ≡ 0
unfolding until whether◌then◌else◌
stops rest = refl

module _ (s : Str) where
  key_gives : (at : ℕ) (k : Key) (rest : Str) → GoodKey k → Anything rest → drop at s ≡ key_text k ++ rest → (eqb (get_or s at 0) 91 ≡ true) × Gives (key s (at + 1)) s k rest
  unfolding key_text key ◌>>=◌ ret key_over key_stray outside_name
  key_gives at k rest good next e =
      let f = first_byte s at 91 _ e in
      let over = good.0 in
      let stray = good.1 in
      let v = joined escaped k.value in (
        eq-eqb _ _ f.1,
        then_gives (name 61 61 s (at + 1)) _ s k.name _ _ _
            (name_gives s (at + 1) 61 61 k.name (61 ∷ (v ++ 93 ∷ rest)) refl refl (or_false_l _ _ stray) (or_false_l _ _ over) (stops (v ++ 93 ∷ rest)) (f.2 ∙ key_tail k.name v rest))
            (λ p i. then_gives (literal 61 s p) _ s 61 _ _ _ (literal_gives s p 61 _ i)
            (λ q j. then_gives (value max_string s q) _ s k.value _ _ _ (value_gives k.value max_string s q rest (sized k.value (or_false_r _ _ over)) j) (λ t l. (t, refl, l)))),
      )

-- what may follow an element: nothing, or the next
abbrev Next : Str → Type 0
Next rest = (up_to 47 91 rest ≡ 0) × (starts 91 rest ≡ false)

element_next : (e : Elem) (rest : Str) → Next (elem_text e ++ rest)
unfolding elem_text until starts whether◌then◌else◌
element_next e rest = (refl, refl)

keys_next : (ks : List Key) (rest : Str) → up_to 47 91 rest ≡ 0 → up_to 47 91 (joined key_text ks ++ rest) ≡ 0
unfolding joined key_text until whether◌then◌else◌
keys_next [] rest h = h
keys_next (k ∷ ks) rest h = refl

module _ (s : Str) where
  element_gives : (at : ℕ) (x : Elem) (rest : Str) → GoodElem x → Next rest → drop at s ≡ elem_text x ++ rest → (eqb (get_or s at 0) 47 ≡ true) × Gives (element s (at + 1)) s x rest
  unfolding elem_text element ◌>>=◌ ret elem_over elem_stray outside_name
  element_gives at x rest good next e =
      let f = first_byte s at 47 _ e in
      let over = good.0 in
      let stray = good.1 in
      let many = or_false_r (unsized x.name) _ over in
      let keys-over = or_false_r (ltb max_keys (length x.keys)) _ many in
      let keys-stray = or_false_r (any outside_name x.name) _ stray in (
        eq-eqb _ _ f.1,
        then_gives (name 47 91 s (at + 1)) _ s x.name _ _ _
            (name_gives s (at + 1) 47 91 x.name _ refl refl (or_false_l _ _ stray) (or_false_l _ _ over) (keys_next x.keys rest next.0) (f.2 ∙ append_assoc x.name (joined key_text x.keys) rest))
            (λ p i. then_gives (each 91 max_keys key s p) _ s x.keys _ _ _
            (each_gives 91 key key_text s GoodKey Anything (omega arith) (key_gives s) (λ k r. tt) max_keys x.keys p rest
            (λ k m. (none_any key_over _ keys-over m, none_any key_stray _ keys-stray m)) (ltb-false max_keys (length x.keys) (or_false_l _ _ many)) tt next.1 i)
            (λ t l. (t, refl, l))),
      )

-- the text of the elements of a good path
pub elements_gives : (p : Path) → over_limit p ≡ false → stray_byte p ≡ false → Gives (elements (joined elem_text p) 0) (joined elem_text p) p []
unfolding elements over_limit stray_byte
elements_gives p over stray =
    each_gives 47 element elem_text (joined elem_text p) GoodElem Next (omega arith) (element_gives (joined elem_text p)) element_next max_elements p 0 []
    (λ e m. (none_any elem_over p (or_false_r (ltb max_elements (length p)) _ over) m, none_any elem_stray p stray m)) (ltb-false max_elements (length p) (or_false_l _ _ over))
    nothing_next nothing_starts (sym (append-nil (joined elem_text p)))
  where
    nothing_next : Next []
    nothing_next = unfold until starts in (refl, refl)

    nothing_starts : starts 47 [] ≡ false
    nothing_starts = unfold starts in refl
