-- Reading strings and runs of things in a frame, one step at a time.
use Rattle.std.proofs.Common.{◌≡◌, ℕ, Option, Some, None, zero, suc, ◌+◌, ◌-◌, ◌<◌, ◌≤◌, ltb, leb, List, [], ◌∷◌, ◌++◌, length, get_or, drop, sym, refl, ap, ◌∙◌, arith, length-drop, ltb-false, ltb-true, le-ltb, lt-ltb, le-leb, leb-false, leb-true}
use borrow.Author.Tests.{lt-leb}
use lib.Seq.{take-append-le, drop-append-le}
use Rattle.text.specs.Test.{whether◌then◌else◌}
use Rattle.text.specs.String.{Str}
use Rattle.text.specs.Frame.{Parsed, got, unread, and_then, Reader, ◌>>=◌, ret, byte, part, run, string, times}
use Rattle.text.specs.Steps.{end_of}
use Rattle.text.proofs.Tests.{by}

module _ (f : List ℕ) (at : ℕ) where
  pub byte_got : at < length f → byte f at ≡ got (get_or f at 0) (at + 1)
  unfolding byte whether◌then◌else◌
  byte_got h = rw (lt-ltb _ _ h)

  pub byte_unread : length f ≤ at → byte f at ≡ unread
  unfolding byte whether◌then◌else◌
  byte_unread h = rw (le-ltb _ _ h)

  pub string_got : at < length f → get_or f at 0 ≤ length f - (at + 1)
      → string f at ≡ got (part f (at + 1) (at + 1 + get_or f at 0)) (at + 1 + get_or f at 0)
  unfolding string ◌>>=◌ run whether◌then◌else◌
  string_got h k = rw (byte_got h, le-leb _ _ k)

  pub string_none : length f ≤ at → string f at ≡ unread
  unfolding string ◌>>=◌
  string_none h = rw (byte_unread h)

  pub string_unread : at < length f → length f - (at + 1) < get_or f at 0 → string f at ≡ unread
  unfolding string ◌>>=◌ run whether◌then◌else◌
  string_unread h k = rw (byte_got h, lt-leb _ _ k)

-- where it ends
pub ends_at : (f : List ℕ) (at : ℕ) → at < length f → get_or f at 0 ≤ length f - (at + 1) → end_of (string f at) ≡ Some (at + 1 + get_or f at 0)
unfolding end_of
ends_at f at h k = rw (string_got f at h k)

pub ends_past : (f : List ℕ) (at : ℕ) → at < length f → length f - (at + 1) < get_or f at 0 → end_of (string f at) ≡ None
unfolding end_of
ends_past f at h k = rw (string_unread f at h k)

pub ends_none : (f : List ℕ) (at : ℕ) → length f ≤ at → end_of (string f at) ≡ None
unfolding end_of
ends_none f at h = rw (string_none f at h)

-- no bytes
pub no_part : (f : List ℕ) (a : ℕ) → part f a a ≡ []
no_part f a = let q : a - a ≡ 0 = omega arith in rw q

-- bytes that follow change no part
pub part_front : (f g : List ℕ) (a b : ℕ) → a ≤ length f → b ≤ length f → part (f ++ g) a b ≡ part f a b
part_front f g a b p q = let h : b - a ≤ length (drop a f) = omega (arith, length-drop a f) in rw (drop-append-le a f g p, take-append-le (b - a) (drop a f) g h)

-- what is known of a string that was read
abbrev Told : List ℕ → ℕ → Parsed Str → Type 0
Told f at (got s t) = (s ≡ part f (at + 1) t) × (at + 1 ≤ t) × (t ≤ length f)
Told f at unread = Unit {0}

told : (f : List ℕ) (at : ℕ) → Told f at (string f at)
told f at =
    by (ltb at (length f))
    (λ u. let a : at < length f = ltb-true _ _ u in
    by (leb (get_or f at 0) (length f - (at + 1)))
    (λ v. let b : get_or f at 0 ≤ length f - (at + 1) = leb-true _ _ v in rw (string_got f at a b) (refl, omega arith, omega arith))
    (λ v. rw (string_unread f at a (leb-false _ _ v)) tt))
    (λ u. rw (string_none f at (ltb-false _ _ u)) tt)

ended : (f : List ℕ) (at : ℕ) (x : Parsed Str) (t : ℕ) → Some t ≡ end_of x → Told f at x → (x ≡ got (part f (at + 1) t) t) × (at + 1 ≤ t) × (t ≤ length f)
unfolding end_of
ended f at (got s e) t g h = let i : t ≡ e = cc in rw i (ap (λ (z : Str). got z e) h.0, h.1, h.2)
ended f at unread t g h = let x : ◌≡◌ {A = ℕ} 0 1 = cc in absurd (omega arith)

missed : {A : Type 0} (x : Parsed A) → None ≡ end_of x → x ≡ unread
unfolding end_of
missed (got a t) g = let x : ◌≡◌ {A = ℕ} 0 1 = cc in absurd (omega arith)
missed unread g = refl

-- what an answer r of string_end tells
module _ (f : List ℕ) (at : ℕ) (r : Option ℕ) (e : r ≡ end_of (string f at)) where
  pub string_ends : (t : ℕ) → r ≡ Some t → (string f at ≡ got (part f (at + 1) t) t) × (at + 1 ≤ t) × (t ≤ length f)
  string_ends t g = ended f at (string f at) t (sym g ∙ e) (told f at)

  pub string_misses : r ≡ None → string f at ≡ unread
  string_misses g = missed (string f at) (sym g ∙ e)

-- the same, for `using(..)`
module _ (f : List ℕ) (at : ℕ) where
  pub ends_after : (t : ℕ) → end_of (string f at) ≡ Some t → at + 1 ≤ t
  ends_after t g = (string_ends f at (Some t) (sym g) t refl).1

  pub ends_within : (t : ℕ) → end_of (string f at) ≡ Some t → t ≤ length f
  ends_within t g = (string_ends f at (Some t) (sym g) t refl).2

  pub string_at : (t : ℕ) → end_of (string f at) ≡ Some t → string f at ≡ got (part f (at + 1) t) t
  string_at t g = (string_ends f at (Some t) (sym g) t refl).0

  pub string_unfit : end_of (string f at) ≡ None → string f at ≡ unread
  string_unfit g = string_misses f at None (sym g) refl

-- n readings, the first of which is known
module _ {A : Type 0} (r : Reader A) (f : List ℕ) (p : ℕ) where
  pub times_turn : (n : ℕ) (a : A) (q : ℕ) → 0 < n → r f p ≡ got a q → times n r f p ≡ and_then (times (n - 1) r f q) (λ xs t. got (a ∷ xs) t)
  unfolding times ◌>>=◌ ret
  times_turn zero a q z g = absurd (omega arith)
  times_turn (suc n) a q z g = let i : suc n - 1 ≡ n = omega arith in rw (g, i)

  pub times_unread : (n : ℕ) → 0 < n → r f p ≡ unread → times n r f p ≡ unread
  unfolding times ◌>>=◌
  times_unread zero z g = absurd (omega arith)
  times_unread (suc n) z g = rw g

  pub times_done : (n : ℕ) → n ≤ 0 → times n r f p ≡ got [] p
  unfolding times ret
  times_done zero z = refl
  times_done (suc n) z = absurd (omega arith)

counted : {A : Type 0} (n : ℕ) (a : A) (x : Parsed (List A)) (xs : List A) (t : ℕ)
    → ((ys : List A) (q : ℕ) → x ≡ got ys q → length ys ≡ n) → and_then x (λ ys q. got (a ∷ ys) q) ≡ got xs t → length xs ≡ suc n
counted n a (got ys q) xs t h e = let i : a ∷ ys ≡ xs = cc in ap length (sym i) ∙ ap suc (h ys q refl)
counted n a unread xs t h e = let x : ◌≡◌ {A = ℕ} 0 1 = cc in absurd (omega arith)

-- n readings give n things
pub times_length : {A : Type 0} (r : Reader A) (f : List ℕ) (n p : ℕ) (xs : List A) (t : ℕ) → times n r f p ≡ got xs t → length xs ≡ n
unfolding times ◌>>=◌ ret
times_length r f zero p xs t e = let i : [] ≡ xs = cc in ap length (sym i)
times_length {A = A} r f (suc n) p xs t e = go (λ q ys u h. times_length r f n q ys u h) (r f p) e
  where
    go : ((q : ℕ) (ys : List A) (u : ℕ) → times n r f q ≡ got ys u → length ys ≡ n) → (x : Parsed A)
        → and_then x (λ a q. and_then (times n r f q) (λ ys u. got (a ∷ ys) u)) ≡ got xs t → length xs ≡ suc n
    go ih (got a q) h = counted n a (times n r f q) xs t (ih q) h
    go ih unread h = let x : ◌≡◌ {A = ℕ} 0 1 = cc in absurd (omega arith)
