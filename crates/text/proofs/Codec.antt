-- Reading and writing: what is read is written back the same, and what is written is read.
use Rattle.std.proofs.Common.{◌≡◌, ℕ, zero, suc, ◌+◌, ◌-◌, ◌<◌, ◌≤◌, ltb, leb, List, [], ◌∷◌, ◌++◌, length, get_or, take, drop, sym, refl, ap, ◌∙◌, append_assoc, append-nil, add-one, arith, length-append, length-drop, take-append-drop, length-take-le, drop-cons, drop-drop, take_at, drop_at, ltb-false, ltb-true, leb-false, leb-true}
use Rattle.text.specs.String.{Str, joined}
use Rattle.text.specs.Frame.{Parsed, got, unread, and_then, Reader, ◌>>=◌, ret, byte, part, string, string_bytes, times}
use Rattle.text.proofs.Tests.{by}
use Rattle.text.proofs.Frames.{byte_got, byte_unread, string_got, string_none, string_unread}

pub never_got {ℓ} : {X : Type ℓ} {A : Type 0} {o : Parsed A} {a : A} {t : ℕ} → o ≡ unread → o ≡ got a t → X
never_got p q = let z : ◌≡◌ {A = ℕ} 0 1 = cc in absurd (omega arith)

-- the first of two readings, where both read
pub then_got : {A B : Type 0} (x : Parsed A) (k : A → ℕ → Parsed B) {b : B} {t : ℕ} → and_then x k ≡ got b t → (a : A) × (p : ℕ) × (x ≡ got a p) × (k a p ≡ got b t)
then_got (got a p) k e = (a, p, refl, e)
then_got unread k e = never_got refl e

-- a fact about what was read goes along with it
pub got_move : {A : Type 0} (P : A → ℕ → Type 0) {a b : A} {s t : ℕ} → got a s ≡ got b t → P a s → P b t
got_move P {a} {b} {s} {t} e x =
    let i : b ≡ a = cc in
    let j : t ≡ s = cc in
    rw (i, j) x

-- ---- read, then written

-- f from `at` on is s, and then what stands from t on
pub record Took (f : List ℕ) (at : ℕ) (s : Str) (t : ℕ) : Type 0 where
  pub same : drop at f ≡ s ++ drop t f
  pub fits : t ≤ length f

pub took_both : (f : List ℕ) (a b c : ℕ) (s t : Str) → Took f a s b → Took f b t c → Took f a (s ++ t) c
took_both f a b c s t h k = record { same = h.same ∙ rw k.same (sym (append_assoc s t (drop c f))); fits = k.fits }

pub took_none : (f : List ℕ) (a : ℕ) → a ≤ length f → Took f a [] a
took_none f a h = record { same = refl; fits = h }

pub byte_took : (f : List ℕ) (at n t : ℕ) → byte f at ≡ got n t → Took f at (n ∷ []) t
byte_took f at n t e =
    by (ltb at (length f))
    (λ u. let h : at < length f = ltb-true _ _ u in
    got_move (λ m q. Took f at (m ∷ []) q) (sym (byte_got f at h) ∙ e)
    (record { same = rw add-one (drop-cons f at 0 h); fits = omega arith }))
    (λ u. never_got (byte_unread f at (ltb-false _ _ u)) e)

module _ (f : List ℕ) (at n : ℕ) (h : at < length f) (m : n ≤ length f - (at + 1)) (e : drop at f ≡ n ∷ drop (at + 1) f) where
  found : Took f at (string_bytes (part f (at + 1) (at + 1 + n))) (at + 1 + n)
  unfolding string_bytes
  found =
      let d : (at + 1 + n) - (at + 1) ≡ n = omega arith in
      let l : length (take n (drop (at + 1) f)) ≡ n = length-take-le n (drop (at + 1) f) (omega (arith, length-drop (at + 1) f)) in
      record { same = e ∙ rw (d, l, ← drop-drop n (at + 1) f) (ap (λ (x : List ℕ). n ∷ x) (sym (take-append-drop n (drop (at + 1) f)))); fits = omega arith }

pub string_took : (f : List ℕ) (at : ℕ) (s : Str) (t : ℕ) → string f at ≡ got s t → Took f at (string_bytes s) t
string_took f at s t e =
    by (ltb at (length f))
    (λ u. let h : at < length f = ltb-true _ _ u in
    by (leb (get_or f at 0) (length f - (at + 1)))
    (λ v. let m : get_or f at 0 ≤ length f - (at + 1) = leb-true _ _ v in
    got_move (λ z q. Took f at (string_bytes z) q) (sym (string_got f at h m) ∙ e)
    (found f at (get_or f at 0) h m (rw add-one (drop-cons f at 0 h))))
    (λ v. never_got (string_unread f at h (leb-false _ _ v)) e))
    (λ u. never_got (string_none f at (ltb-false _ _ u)) e)

times_zero : {A : Type 0} (r : Reader A) (f : List ℕ) (at : ℕ) → times 0 r f at ≡ got [] at
unfolding times ret
times_zero r f at = refl

times_suc : {A : Type 0} (r : Reader A) (f : List ℕ) (n at : ℕ) → times (suc n) r f at ≡ and_then (r f at) (λ x p. and_then (times n r f p) (λ xs t. got (x ∷ xs) t))
unfolding times ◌>>=◌ ret
times_suc r f n at = refl

pub joined_nil : {A : Type 0} (w : A → Str) → joined w [] ≡ []
unfolding joined
joined_nil w = refl

pub joined_cons : {A : Type 0} (w : A → Str) (x : A) (xs : List A) (r : Str) → joined w (x ∷ xs) ++ r ≡ w x ++ (joined w xs ++ r)
unfolding joined
joined_cons w x xs r = append_assoc (w x) (joined w xs) r

pub joined_append : {A : Type 0} (w : A → Str) (xs ys : List A) → joined w (xs ++ ys) ≡ joined w xs ++ joined w ys
unfolding joined
joined_append w [] ys = refl
joined_append w (x ∷ xs) ys = ap (λ (s : Str). w x ++ s) (joined_append w xs ys) ∙ sym (append_assoc (w x) (joined w xs) (joined w ys))

pub joined_one : {A : Type 0} (w : A → Str) (a : A) → joined w (a ∷ []) ≡ w a
unfolding joined
joined_one w a = append-nil (w a)

pub took_cons : {A : Type 0} (w : A → Str) (f : List ℕ) (at p t : ℕ) (x : A) (xs : List A) → Took f at (w x) p → Took f p (joined w xs) t → Took f at (joined w (x ∷ xs)) t
unfolding joined
took_cons w f at p t x xs h k = took_both f at p t (w x) (joined w xs) h k

-- a reader of what w writes
module _ {A : Type 0} (r : Reader A) (w : A → Str) (f : List ℕ) where
  pub times_took : ((at : ℕ) (a : A) (t : ℕ) → r f at ≡ got a t → Took f at (w a) t)
      → (n at : ℕ) (xs : List A) (t : ℕ) → at ≤ length f → times n r f at ≡ got xs t → Took f at (joined w xs) t
  times_took h zero at xs t fits e =
      got_move (λ ys q. Took f at (joined w ys) q) (sym (times_zero r f at) ∙ e) (rw (joined_nil w) (took_none f at fits))
  times_took h (suc n) at xs t fits e =
      let a = then_got (r f at) _ (sym (times_suc r f n at) ∙ e) in
      let b = then_got (times n r f a.1) _ a.3 in
      let k = h at a.0 a.1 a.2 in
      got_move (λ ys q. Took f at (joined w ys) q) b.3
      (took_cons w f at a.1 b.1 a.0 b.0 k (times_took h n a.1 b.0 b.1 k.fits b.2))

-- ---- written, then read

-- what was read is a, and f goes on with rest
abbrev pub Gives : {A : Type 0} → Parsed A → List ℕ → A → Str → Type 0
Gives x f a rest = (t : ℕ) × (x ≡ got a t) × (drop t f ≡ rest)

-- one reading after another
pub then_gives : {A B : Type 0} (x : Parsed A) (k : A → ℕ → Parsed B) (f : List ℕ) (a : A) (b : B) (r s : Str)
    → Gives x f a r → ((p : ℕ) → drop p f ≡ r → Gives (k a p) f b s) → Gives (and_then x k) f b s
then_gives x k f a b r s h g = let w = g h.0 h.2 in (w.0, rw h.1 w.1, w.2)

-- the byte at a position where the rest is known
pub first_byte : (f : List ℕ) (at n : ℕ) (rest : Str) → drop at f ≡ n ∷ rest → (at < length f) × (get_or f at 0 ≡ n) × (drop (at + 1) f ≡ rest)
first_byte f at n rest e =
    let l : length f - at ≡ suc (length rest) = sym (length-drop at f) ∙ ap length e in
    let h : at < length f = omega arith in
    let d : get_or f at 0 ∷ drop (suc at) f ≡ n ∷ rest = sym (drop-cons f at 0 h) ∙ e in
    (h, (cc), rw add-one (cc))

pub byte_gives : (f : List ℕ) (at n : ℕ) (rest : Str) → drop at f ≡ n ∷ rest → Gives (byte f at) f n rest
byte_gives f at n rest e =
    let b = first_byte f at n rest e in
    (at + 1, byte_got f at b.0 ∙ ap (λ (x : ℕ). got x (at + 1)) b.1, b.2)

pub string_gives : (f : List ℕ) (at : ℕ) (s rest : Str) → drop at f ≡ string_bytes s ++ rest → Gives (string f at) f s rest
unfolding string_bytes
string_gives f at s rest e =
    let b = first_byte f at (length s) (s ++ rest) e in
    let h : at < length f = b.0 in
    let i : get_or f at 0 ≡ length s = b.1 in
    let j : drop (at + 1) f ≡ s ++ rest = b.2 in
    let l : length f - (at + 1) ≡ length s + length rest = sym (length-drop (at + 1) f) ∙ ap length j ∙ length-append s rest in
    let o : (at + 1 + length s) - (at + 1) ≡ length s = omega arith in
    let p : part f (at + 1) (at + 1 + length s) ≡ s = rw (o, j) (take_at s rest (length s) refl) in (
      at + 1 + length s,
      string_got f at h (omega arith) ∙ rw (i, p),
      rw (← drop-drop (length s) (at + 1) f, j) (drop_at s rest (length s) refl),
    )

module _ {A : Type 0} (r : Reader A) (w : A → Str) (f : List ℕ) where
  pub times_gives : ((at : ℕ) (a : A) (rest : Str) → drop at f ≡ w a ++ rest → Gives (r f at) f a rest)
      → (xs : List A) (at : ℕ) (rest : Str) → drop at f ≡ joined w xs ++ rest → Gives (times (length xs) r f at) f xs rest
  times_gives h [] at rest e = (at, times_zero r f at, e ∙ rw (joined_nil w))
  times_gives h (x ∷ xs) at rest e =
      rw (times_suc r f (length xs) at)
      (then_gives (r f at) _ f x _ _ _ (h at x (joined w xs ++ rest) (e ∙ joined_cons w x xs rest))
      (λ p i. then_gives (times (length xs) r f p) _ f xs _ _ _ (times_gives h xs p rest i) (λ t j. (t, refl, j))))
