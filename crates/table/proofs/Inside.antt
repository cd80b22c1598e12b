-- What reads in some bytes reads so among more bytes, before and after them.
use mathlib.Core.Path.{◌≡◌, refl, sym, ap, ap₂, ◌∙◌}
use mathlib.Core.Bool.{Bool, true, false}
use mathlib.Core.List.{List, [], ◌∷◌, ◌++◌, append-nil}
use Prim.Native.Nat.{ℕ, zero, suc, ◌+◌, ◌-◌, ◌≤◌, ◌<◌}
use native.Mathlib.Omega.{arith}
use borrow.Author.Tests.{ltb-true, ltb-false, leb-true, leb-false, le-leb}
use lib.Dec.{ltb, leb, eqb}
use lib.ListN.{length, drop, get_or, length-append, length-drop, get_or-append}
use lib.Seq.{get_or-append-add, drop-append-add, drop-append-le, take-append-le}
use Rattle.text.specs.Test.{◌or◌, whether◌then◌else◌}
use Rattle.text.specs.Frame.{Parsed, got, unread, and_then, Reader, ◌>>=◌, ret, byte, part, run, string, times}
use Rattle.text.proofs.Tests.{by}
use Rattle.text.proofs.Frames.{byte_got, byte_unread}
use Rattle.path.specs.Bytes.{key, element, path}
use Rattle.table.specs.Frame.{unknown, code, rule_body}

abbrev pub Inside : {A : Type 0} → Reader A → Type 0
Inside {A} r = (h g k : List ℕ) (p : ℕ) (a : A) (e : ℕ) → r g p ≡ got a e → r (h ++ (g ++ k)) (length h + p) ≡ got a (length h + e)

never : {A : Type 0} {X : Type 0} {a : A} {e : ℕ} → unread ≡ got a e → X
never q = let z : ◌≡◌ {A = ℕ} 0 1 = cc in absurd (omega arith)

got_value : {A : Type 0} {a b : A} {s t : ℕ} → got a s ≡ got b t → (a ≡ b) × (s ≡ t)
got_value q = (cc, cc)

inside_byte : Inside byte
inside_byte h g k p a e i =
    by (ltb p (length g))
    (λ t.
    let l : p < length g = ltb-true _ _ t in
    let v = got_value (sym (byte_got g p l) ∙ i) in
    let b : length h + p < length (h ++ (g ++ k)) = omega (arith, length-append h (g ++ k), length-append g k) in
    let c : get_or (h ++ (g ++ k)) (length h + p) 0 ≡ a = get_or-append-add h (g ++ k) p 0 ∙ get_or-append g k 0 p l ∙ v.0 in
    let d : length h + p + 1 ≡ length h + e = omega (arith, v.1) in
    byte_got (h ++ (g ++ k)) (length h + p) b ∙ ap₂ got c d)
    (λ t. never (sym (byte_unread g p (ltb-false _ _ t)) ∙ i))

part_inside : (h g k : List ℕ) (p n : ℕ) → n ≤ length g - p → part (h ++ (g ++ k)) (length h + p) (length h + p + n) ≡ part g p (p + n)
part_inside h g k p n l =
    let a : length h + p + n - (length h + p) ≡ n = omega arith in
    let b : p + n - p ≡ n = omega arith in
    rw (a, b, drop-append-add h (g ++ k) p)
    (by (leb p (length g))
    (λ t.
    let m : p ≤ length g = leb-true _ _ t in
    let q : n ≤ length (drop p g) = omega (arith, length-drop p g) in
    rw (drop-append-le p g k m, take-append-le n (drop p g) k q))
    (λ t.
    let m : length g < p = leb-false _ _ t in
    let z : n ≡ 0 = omega arith in
    rw z))

run_got : (n : ℕ) (f : List ℕ) (at : ℕ) → n ≤ length f - at → run n f at ≡ got (part f at (at + n)) (at + n)
unfolding run whether◌then◌else◌
run_got n f at h = rw (le-leb _ _ h)

run_unread : (n : ℕ) (f : List ℕ) (at : ℕ) → leb n (length f - at) ≡ false → run n f at ≡ unread
unfolding run whether◌then◌else◌
run_unread n f at h = rw h

inside_run : (n : ℕ) → Inside (run n)
inside_run n h g k p a e i =
    by (leb n (length g - p))
    (λ t.
    let l : n ≤ length g - p = leb-true _ _ t in
    let v = got_value (sym (run_got n g p l) ∙ i) in
    let b : n ≤ length (h ++ (g ++ k)) - (length h + p) = omega (arith, length-append h (g ++ k), length-append g k) in
    let d : length h + p + n ≡ length h + e = omega (arith, v.1) in
    run_got n (h ++ (g ++ k)) (length h + p) b ∙ ap₂ got (part_inside h g k p n l ∙ v.0) d)
    (λ t. never (sym (run_unread n g p t) ∙ i))

module _ {A B : Type 0} (r : Reader A) (q : A → Reader B) where
  inside_bind : Inside r → ((a : A) → Inside (q a)) → Inside (r >>= q)
  unfolding ◌>>=◌
  inside_bind x y h g k p a e i = go (r g p) refl i
    where
      go : (z : Parsed A) → r g p ≡ z → and_then z (λ a p. q a g p) ≡ got a e → and_then (r (h ++ (g ++ k)) (length h + p)) (λ a p. q a (h ++ (g ++ k)) p) ≡ got a (length h + e)
      go (got b t) j m = rw (x h g k p b t j) (y b h g k t a e m)
      go unread j m = never m

inside_ret : {A : Type 0} (a : A) → Inside (ret a)
unfolding ret
inside_ret a h g k p b e i = let v = got_value i in ap₂ got v.0 (ap (λ (j : ℕ). length h + j) v.1)

inside_unknown : {A : Type 0} → Inside (unknown {A = A})
unfolding unknown
inside_unknown h g k p a e i = never i

inside_if : {A : Type 0} (t : Bool) (r q : Reader A) → Inside r → Inside q → Inside (whether t then r else q)
unfolding whether◌then◌else◌
inside_if true r q x y = x
inside_if false r q x y = y

inside_times : {A : Type 0} (n : ℕ) (r : Reader A) → Inside r → Inside (times n r)
unfolding times
inside_times zero r x = inside_ret []
inside_times (suc n) r x = inside_bind r _ x (λ a. inside_bind (times n r) _ (inside_times n r x) (λ as'. inside_ret (a ∷ as')))

pub inside_string : Inside string
unfolding string
inside_string = inside_bind byte _ inside_byte inside_run

inside_code : (a b : ℕ) → Inside (code a b)
unfolding code
inside_code a b = inside_bind byte _ inside_byte (λ n. inside_if (eqb n a or eqb n b) _ _ (inside_ret n) inside_unknown)

inside_key : Inside key
unfolding key
inside_key = inside_bind string _ inside_string (λ n. inside_bind string _ inside_string (λ v. inside_ret _))

inside_element : Inside element
unfolding element
inside_element = inside_bind string _ inside_string (λ n. inside_bind byte _ inside_byte (λ c. inside_bind (times c key) _ (inside_times c key inside_key) (λ ks. inside_ret _)))

pub inside_path : Inside path
unfolding path
inside_path = inside_bind byte _ inside_byte (λ c. inside_times c element inside_element)

pub inside_rule : Inside rule_body
unfolding rule_body
inside_rule =
    inside_bind (code 0 1) _ (inside_code 0 1) (λ a.
    inside_bind (code 1 2) _ (inside_code 1 2) (λ m.
    inside_bind (code 0 1) _ (inside_code 0 1) (λ k.
    inside_bind string _ inside_string (λ s.
    inside_bind string _ inside_string (λ i.
    inside_bind string _ inside_string (λ o.
    inside_bind path _ inside_path (λ p. inside_ret _)))))))

-- more bytes behind, and more before
module _ {A : Type 0} (r : Reader A) (x : Inside r) (f g : List ℕ) (p : ℕ) (a : A) (e : ℕ) where
  pub reads_more : r f p ≡ got a e → r (f ++ g) p ≡ got a e
  reads_more i =
      let s : 0 + p ≡ p = omega arith in
      let t : 0 + e ≡ e = omega arith in
      sym (ap (r (f ++ g)) s) ∙ x [] f g p a e i ∙ ap (got a) t

  pub reads_after : r g p ≡ got a e → r (f ++ g) (length f + p) ≡ got a (length f + e)
  reads_after i = ap (λ (l : List ℕ). r (f ++ l) (length f + p)) (sym (append-nil g)) ∙ x f g [] p a e i
