-- Path text that was read is the text of the path.
use mathlib.Core.Path.{◌≡◌, refl, sym}
use mathlib.Core.Bool.{true, false}
use mathlib.Core.List.{List, [], ◌∷◌, ◌++◌}
use Prim.Native.Nat.{ℕ, zero, suc, ◌+◌, ◌-◌, ◌≤◌, ◌<◌}
use native.Mathlib.Numerals.{add-one}
use native.Mathlib.Omega.{arith}
use borrow.Author.Tests.{eqb-true, ltb-true, ltb-false}
use lib.Dec.{eqb, ltb}
use lib.ListN.{length, drop, get_or, length-drop, take-append-drop, get_or-eq_default}
use lib.Seq.{drop-cons, drop-drop}
use Rattle.limits.specs.Limits.{max_elements, max_keys, max_string}
use Rattle.text.specs.Test.{whether◌then◌else◌}
use Rattle.text.specs.String.{Str, joined}
use Rattle.text.specs.Frame.{got, Reader, ◌>>=◌, ret, part}
use Rattle.text.proofs.Tests.{by}
use Rattle.text.proofs.Codec.{never_got, then_got, got_move, Took, took_both, took_none, took_cons, joined_nil, joined_cons}
use Rattle.text_search.proofs.Searching.{until_fits}
use Rattle.path.specs.Path.{Key, Elem, Path}
use Rattle.path_read.specs.Text.{is_mark, escaped, key_text, elem_text}
use Rattle.path_read.specs.TextReader.{literal, is_either, up_to, name, item, value, each, key, element, elements}

module _ (s : Str) (at : ℕ) where
  -- a byte that is not 0 stands within the text
  pub inside : (b : ℕ) → 0 < b → get_or s at 0 ≡ b → at < length s
  inside b h e =
      by (ltb at (length s)) (λ u. ltb-true _ _ u)
      (λ u. let z : get_or s at 0 ≡ 0 = get_or-eq_default s 0 (ltb-false _ _ u) in absurd (omega arith))

  pub one_took : at < length s → Took s at (get_or s at 0 ∷ []) (at + 1)
  one_took h = record { same = rw add-one (drop-cons s at 0 h); fits = omega arith }

  byte_took : (b : ℕ) → 0 < b → get_or s at 0 ≡ b → Took s at (b ∷ []) (at + 1)
  byte_took b h e = rw (← e) (one_took (inside b h e))

  pub literal_took : (b c t : ℕ) → 0 < b → literal b s at ≡ got c t → Took s at (b ∷ []) t
  unfolding literal whether◌then◌else◌
  literal_took b c t h e =
      by (eqb (get_or s at 0) b)
      (λ u. let e' = rw u at e in got_move (λ x q. Took s at (b ∷ []) q) e' (byte_took b h (eqb-true _ _ u)))
      (λ u. let e' = rw u at e in never_got refl e')

-- there are no more bytes than the text has
split : (s : Str) (at u : ℕ) → at ≤ length s → u ≤ length (drop at s) → Took s at (part s at (at + u)) (at + u)
split s at u h k =
    let d : (at + u) - at ≡ u = omega arith in
    record { same = rw (d, ← drop-drop u at s) (sym (take-append-drop u (drop at s))); fits = omega (arith, length-drop at s) }

name_took : (a b : ℕ) (s : Str) (at : ℕ) (n : Str) (t : ℕ) → at ≤ length s → name a b s at ≡ got n t → Took s at n t
unfolding name whether◌then◌else◌
name_took a b s at n t h e =
    by (ltb max_string (up_to a b (drop at s)))
    (λ u. let e' = rw u at e in never_got refl e')
    (λ u. let e' = rw u at e in got_move (λ x q. Took s at x q) e' (split s at (up_to a b (drop at s)) h (until_fits (is_either a b) (drop at s))))

pub escaped_plain : (b : ℕ) → is_mark b ≡ false → escaped b ≡ b ∷ []
unfolding escaped whether◌then◌else◌
escaped_plain b e = rw e

pub escaped_mark : (b : ℕ) → is_mark b ≡ true → escaped b ≡ 92 ∷ b ∷ []
unfolding escaped whether◌then◌else◌
escaped_mark b e = rw e

no_mark : (b : ℕ) → eqb b 93 ≡ false → eqb b 92 ≡ false → is_mark b ≡ false
no_mark b e f = rw (e, f)

mark_inside : (s : Str) (at : ℕ) → is_mark (get_or s at 0) ≡ true → at < length s
mark_inside s at e =
    by (ltb at (length s)) (λ u. ltb-true _ _ u)
    (λ u. let z : get_or s at 0 ≡ 0 = get_or-eq_default s 0 (ltb-false _ _ u) in
    let w : is_mark 0 ≡ true = rw z at e in
    let x : ◌≡◌ {A = ℕ} 0 1 = cc in absurd (omega arith))

-- \ and a mark
pair_took : (s : Str) (at : ℕ) → get_or s at 0 ≡ 92 → is_mark (get_or s (at + 1) 0) ≡ true → Took s at (escaped (get_or s (at + 1) 0)) (at + 2)
pair_took s at e w =
    let two : at + 2 ≡ at + 1 + 1 = omega arith in
    rw (escaped_mark (get_or s (at + 1) 0) w, two)
    (took_both s at (at + 1) (at + 1 + 1) (92 ∷ []) _ (byte_took s at 92 (omega arith) e) (one_took s (at + 1) (mark_inside s (at + 1) w)))

item_took : (s : Str) (at b t : ℕ) → eqb (get_or s at 0) 93 ≡ false → item s at ≡ got b t → Took s at (escaped b) t
unfolding item whether◌then◌else◌
item_took s at b t n e =
    by (ltb at (length s))
    (λ u. let h : at < length s = ltb-true _ _ u in
    by (eqb (get_or s at 0) 92)
    (λ v. by (is_mark (get_or s (at + 1) 0))
    (λ w. let e' = rw (u, v, w) at e in got_move (λ x q. Took s at (escaped x) q) e' (pair_took s at (eqb-true _ _ v) w))
    (λ w. let e' = rw (u, v, w) at e in never_got refl e'))
    (λ v. let e' = rw (u, v) at e in got_move (λ x q. Took s at (escaped x) q) e' (rw (escaped_plain (get_or s at 0) (no_mark (get_or s at 0) n v)) (one_took s at h))))
    (λ u. let e' = rw u at e in never_got refl e')

-- the next byte of a value stands within the text
pub item_inside : (s : Str) (at b t : ℕ) → item s at ≡ got b t → (at < t) × (t ≤ length s)
unfolding item whether◌then◌else◌
item_inside s at b t e =
    by (ltb at (length s))
    (λ u. let h : at < length s = ltb-true _ _ u in
    by (eqb (get_or s at 0) 92)
    (λ v. by (is_mark (get_or s (at + 1) 0))
    (λ w. let e' = rw (u, v, w) at e in got_move (λ x q. (at < q) × (q ≤ length s)) e' (omega arith, omega (arith, mark_inside s (at + 1) w)))
    (λ w. let e' = rw (u, v, w) at e in never_got refl e'))
    (λ v. let e' = rw (u, v) at e in got_move (λ x q. (at < q) × (q ≤ length s)) e' (omega arith, omega arith)))
    (λ u. let e' = rw u at e in never_got refl e')

closed : (s : Str) (at : ℕ) → eqb (get_or s at 0) 93 ≡ true → Took s at (joined escaped [] ++ 93 ∷ []) (at + 1)
closed s at e = rw (joined_nil escaped) (byte_took s at 93 (omega arith) (eqb-true _ _ e))

pub value_took : (n : ℕ) (s : Str) (at : ℕ) (v : Str) (t : ℕ) → value n s at ≡ got v t → Took s at (joined escaped v ++ 93 ∷ []) t
unfolding value whether◌then◌else◌ ◌>>=◌ ret
value_took zero s at v t e =
    by (eqb (get_or s at 0) 93)
    (λ u. let e' = rw u at e in got_move (λ x q. Took s at (joined escaped x ++ 93 ∷ []) q) e' (closed s at u))
    (λ u. let e' = rw u at e in never_got refl e')
value_took (suc n) s at v t e =
    by (eqb (get_or s at 0) 93)
    (λ u. let e' = rw u at e in got_move (λ x q. Took s at (joined escaped x ++ 93 ∷ []) q) e' (closed s at u))
    (λ u. let e' = rw u at e in
    let a = then_got (item s at) _ e' in
    let b = then_got (value n s a.1) _ a.3 in
    got_move (λ x q. Took s at (joined escaped x ++ 93 ∷ []) q) b.3
    (rw (joined_cons escaped a.0 b.0 (93 ∷ []))
    (took_both s at a.1 b.1 _ _ (item_took s at a.0 a.1 u a.2) (value_took n s a.1 b.0 b.1 b.2))))

-- things that each start with the byte b, and are read after it
module _ {A : Type 0} (b : ℕ) (r : Reader A) (w : A → Str) (s : Str) where
  each_took : ((at : ℕ) (a : A) (t : ℕ) → get_or s at 0 ≡ b → r s (at + 1) ≡ got a t → Took s at (w a) t)
      → (n at : ℕ) (xs : List A) (t : ℕ) → at ≤ length s → each b n r s at ≡ got xs t → Took s at (joined w xs) t
  unfolding each whether◌then◌else◌ ◌>>=◌ ret
  each_took h zero at xs t fits e = got_move (λ ys q. Took s at (joined w ys) q) e (rw (joined_nil w) (took_none s at fits))
  each_took h (suc n) at xs t fits e =
      by (eqb (get_or s at 0) b)
      (λ u. let e' = rw u at e in
      let a = then_got (r s (at + 1)) _ e' in
      let c = then_got (each b n r s a.1) _ a.3 in
      let k = h at a.0 a.1 (eqb-true _ _ u) a.2 in
      got_move (λ ys q. Took s at (joined w ys) q) c.3
      (took_cons w s at a.1 c.1 a.0 c.0 k (each_took h n a.1 c.0 c.1 k.fits c.2)))
      (λ u. let e' = rw u at e in got_move (λ ys q. Took s at (joined w ys) q) e' (rw (joined_nil w) (took_none s at fits)))

module _ (s : Str) where
  key_took : (at : ℕ) (k : Key) (t : ℕ) → get_or s at 0 ≡ 91 → key s (at + 1) ≡ got k t → Took s at (key_text k) t
  unfolding key ◌>>=◌ ret key_text
  key_took at k t h e =
      let a = then_got (name 61 61 s (at + 1)) _ e in
      let b = then_got (literal 61 s a.1) _ a.3 in
      let c = then_got (value max_string s b.1) _ b.3 in
      let i = inside s at 91 (omega arith) h in
      got_move (λ x q. Took s at (key_text x) q) c.3
      (took_both s at (at + 1) c.1 (91 ∷ []) _ (byte_took s at 91 (omega arith) h)
      (took_both s (at + 1) a.1 c.1 a.0 _ (name_took 61 61 s (at + 1) a.0 a.1 (omega arith) a.2)
      (took_both s a.1 b.1 c.1 (61 ∷ []) _ (literal_took s a.1 61 b.0 b.1 (omega arith) b.2)
      (value_took max_string s b.1 c.0 c.1 c.2))))

  element_took : (at : ℕ) (x : Elem) (t : ℕ) → get_or s at 0 ≡ 47 → element s (at + 1) ≡ got x t → Took s at (elem_text x) t
  unfolding element ◌>>=◌ ret elem_text
  element_took at x t h e =
      let a = then_got (name 47 91 s (at + 1)) _ e in
      let b = then_got (each 91 max_keys key s a.1) _ a.3 in
      let i = inside s at 47 (omega arith) h in
      let w = name_took 47 91 s (at + 1) a.0 a.1 (omega arith) a.2 in
      got_move (λ y q. Took s at (elem_text y) q) b.3
      (took_both s at (at + 1) b.1 (47 ∷ []) _ (byte_took s at 47 (omega arith) h)
      (took_both s (at + 1) a.1 b.1 a.0 _ w (each_took 91 key key_text s key_took max_keys a.1 b.0 b.1 w.fits b.2)))

  -- the text of the elements that were read
  pub elements_took : (p : Path) (t : ℕ) → elements s 0 ≡ got p t → Took s 0 (joined elem_text p) t
  unfolding elements
  elements_took p t e = each_took 47 element elem_text s element_took max_elements 0 p t (omega arith) e
