-- The readers that drop the white space after what they read; the scalars.
use mathlib.Core.Path.{◌≡◌, refl, sym, ap, ◌∙◌, subst}
use mathlib.Core.Bool.{true, false}
use mathlib.Core.List.{List, [], ◌∷◌, ◌++◌, append_assoc}
use mathlib.Core.Option.{some, bind}
use Prim.Native.Nat.{ℕ, ◌≤◌}
use native.Mathlib.Omega.{arith}
use borrow.Author.Tests.{eqb-true, ne_eqb}
use Rattle.text.specs.Test.{◌or◌}
use Rattle.text.specs.String.{bytes}
use Rattle.json_grammar.specs.Abnf.{is, Rule, one, seq, first, second, absent, present, done, more}
use Rattle.json_grammar.specs.Json.{Json, jnull, jtrue, jfalse, jnumber, jstring}
use Rattle.json_grammar.specs.Grammar.{white, Ws, Sign, sign, DIGIT, digit1_9, e_or_E, Number, Quoted, quoted, Scalar, false_text, null_text, true_text, number, string}
use Rattle.json_grammar.specs.Parser.{Reader, ◌>>=◌, skip, plainly, last_plain, read_chars, read_word, read_number, spaced, read_scalar}
use Rattle.text.proofs.Tests.{by}
use Rattle.json_grammar.proofs.Basics.{split, empty_handed, bound, binds, starts, lit, in_range, push, skip_sound, skip_star, skip_stop}
use Rattle.json_grammar.proofs.Numbers.{pointed, numeric, number_read}
use Rattle.json_grammar.proofs.Strings.{chars_sound, chars_complete}

-- s is a text of R, white space, and then the rest
abbrev pub Cuts : {A : Type 0} → Rule A → List ℕ → A × List ℕ → Type 0
Cuts R s r = (v : List ℕ) × (w : List ℕ) × R v r.0 × Ws w × (s ≡ v ++ (w ++ r.1))

-- p reads the texts of R: what it reads is one, and it reads each, after any white space, where no digit, point or e follows
pub record ReadsTo {A : Type 0} (R : Rule A) (p : Reader A) : Type 0 where
  pub sound : (s : List ℕ) (r : A × List ℕ) → p s ≡ some r → Cuts R s r
  pub complete : (v : List ℕ) (a : A) → R v a → (t : List ℕ) → starts numeric t ≡ false → p (skip white (v ++ t)) ≡ some (a, skip white t)

-- ---- white space

pub white_unnumeric : (c : ℕ) → white c ≡ true → numeric c ≡ false
unfolding white numeric pointed DIGIT e_or_E ◌or◌
white_unnumeric c e = by (is 0x20 c) (λ h. lit numeric 0x20 c h refl) (λ a. by (is 0x09 c) (λ h. lit numeric 0x09 c h refl) (λ b. by (is 0x0A c) (λ h. lit numeric 0x0A c h refl) (λ d. lit numeric 0x0D c (rw (a, b, d) at e) refl)))

-- a byte that neither white space nor numbers hold, with white space around it
pub record Solid (b : ℕ) : Type 0 where
  pub dark : white b ≡ false
  pub ends : numeric b ≡ false

pub ws_stops : {u : List ℕ} → Ws u → (t : List ℕ) → starts numeric t ≡ false → starts numeric (u ++ t) ≡ false
ws_stops done t e = e
ws_stops (more (one {c} h) m) t e = white_unnumeric c h

pub sign_stops : {b : ℕ} → Solid b → {s : List ℕ} → Sign b s → (t : List ℕ) → starts numeric (s ++ t) ≡ false
sign_stops {b} d (sign {u} {v} m n) t = rw (append_assoc u (b ∷ v) t) (ws_stops m _ d.ends)

-- white space before a byte that is none
pub skip_to : {b : ℕ} → white b ≡ false → {u : List ℕ} → Ws u → (t : List ℕ) → skip white (u ++ (b ∷ t)) ≡ b ∷ t
skip_to h m t = skip_star white m _ ∙ skip_stop white _ h

-- ---- one answer

-- the white space after a text of R
pub spaced_sound : {A : Type 0} (R : Rule A) {a : A} (v s t : List ℕ) (r : A × List ℕ) → R v a → s ≡ v ++ t → spaced a t ≡ some r → Cuts R s r
spaced_sound {A} R {a} v s t r m e k =
    let x = skip_sound white t in
    let q : ◌≡◌ {A = A × List ℕ} (a, skip white t) r = cc in
    subst (Cuts R s) q (v, x.0, m, x.1, e ∙ ap (λ (z : List ℕ). v ++ z) x.2)

-- ---- words and strings

word_sound : (w s t : List ℕ) → read_word w s ≡ some t → s ≡ w ++ t
unfolding read_word
word_sound [] s t e = cc
word_sound (x ∷ w) [] t e = empty_handed e
word_sound (x ∷ w) (c ∷ s) t e = split (is x c) e (λ h k. ap (λ (y : ℕ). y ∷ s) (eqb-true c x h) ∙ push x (word_sound w s t k)) (λ h k. empty_handed k)

pub quoted_sound : (c : ℕ) (s : List ℕ) (r : List ℕ × List ℕ) → is 0x22 c ≡ true → read_chars plainly s ≡ some r → (v : List ℕ) × Quoted last_plain v r.0 × (c ∷ s ≡ v ++ r.1)
quoted_sound c s r h e =
    let g = chars_sound plainly s r e in
    (0x22 ∷ (r.0 ++ (0x22 ∷ [])), quoted g.0, ap (λ (y : ℕ). y ∷ s) (eqb-true c 0x22 h) ∙ push 0x22 (g.1 ∙ sym (append_assoc r.0 (0x22 ∷ []) r.1)))

-- ---- the first byte of a number

number_first : (v : List ℕ) → Number v → (c : ℕ) × (w : List ℕ) × (v ≡ c ∷ w) × (0x2D ≤ c) × (c ≤ 0x39)
unfolding digit1_9
number_first v (seq (present (one {c} e)) (seq i x)) = let z = eqb-true c 0x2D e in (c, _, refl, omega arith, omega arith)
number_first v (seq absent (seq (first (one {c} e)) x)) = let z = eqb-true c 0x30 e in (c, _, refl, omega arith, omega arith)
number_first v (seq absent (seq (second (seq (one {c} e) m)) x)) = let z = in_range 0x31 0x39 c e in (c, _, refl, omega arith, omega arith)

number_dark : (c : ℕ) → 0x2D ≤ c → c ≤ 0x39 → white c ≡ false
unfolding white
number_dark c l h = rw (ne_eqb c 0x20 (λ z. omega arith), ne_eqb c 0x09 (λ z. omega arith), ne_eqb c 0x0A (λ z. omega arith), ne_eqb c 0x0D (λ z. omega arith))

scalar_number : (c : ℕ) (s : List ℕ) → 0x2D ≤ c → c ≤ 0x39 → read_scalar (c ∷ s) ≡ (read_number (c ∷ s) >>= spaced jnumber)
unfolding read_scalar
scalar_number c s l h = rw (ne_eqb c 0x22 (λ z. omega arith), ne_eqb c 0x74 (λ z. omega arith), ne_eqb c 0x66 (λ z. omega arith), ne_eqb c 0x6E (λ z. omega arith))

-- ---- scalars

scalar_sound : (s : List ℕ) (r : Json × List ℕ) → read_scalar s ≡ some r → Cuts (Scalar last_plain) s r
unfolding read_scalar
scalar_sound [] r e = empty_handed e
scalar_sound (c ∷ s) r e =
    split (is 0x22 c) e (λ h k. let b = bound (read_chars plainly s) (λ x. spaced (jstring x.0) x.1) k in let q = quoted_sound c s b.0 h b.1 in spaced_sound (Scalar last_plain) _ _ _ r (string q.1) q.2 b.2)
    (λ _ e. split (is 0x74 c) e (λ h k. let b = bound (read_word (bytes "rue") s) (spaced jtrue) k in spaced_sound (Scalar last_plain) (bytes "true") _ _ r true_text (lit (λ (x : ℕ). x ∷ s) 0x74 c h (push 0x74 (word_sound (bytes "rue") s b.0 b.1))) b.2)
    (λ _ e. split (is 0x66 c) e (λ h k. let b = bound (read_word (bytes "alse") s) (spaced jfalse) k in spaced_sound (Scalar last_plain) (bytes "false") _ _ r false_text (lit (λ (x : ℕ). x ∷ s) 0x66 c h (push 0x66 (word_sound (bytes "alse") s b.0 b.1))) b.2)
    (λ _ e. split (is 0x6E c) e (λ h k. let b = bound (read_word (bytes "ull") s) (spaced jnull) k in spaced_sound (Scalar last_plain) (bytes "null") _ _ r null_text (lit (λ (x : ℕ). x ∷ s) 0x6E c h (push 0x6E (word_sound (bytes "ull") s b.0 b.1))) b.2)
    (λ _ k. let b = bound (read_number (c ∷ s)) (spaced jnumber) k in let n = number_read.sound (c ∷ s) b.0 b.1 in spaced_sound (Scalar last_plain) _ _ _ r (number n.1) n.2 b.2))))

number_complete : (v : List ℕ) → Number v → (t : List ℕ) → starts numeric t ≡ false → read_scalar (skip white (v ++ t)) ≡ some (jnumber, skip white t)
number_complete v m t n =
    let f = number_first v m in
    let c = f.0 in let w = f.1 in
    let e : v ++ t ≡ c ∷ (w ++ t) = ap (λ (z : List ℕ). z ++ t) f.2 in
    ap read_scalar (ap (skip white) e ∙ skip_stop white (c ∷ (w ++ t)) (number_dark c f.3 f.4)) ∙ scalar_number c (w ++ t) f.3 f.4 ∙ binds (spaced jnumber) (ap read_number (sym e) ∙ number_read.complete v m t n)

scalar_complete : (v : List ℕ) (j : Json) → Scalar last_plain v j → (t : List ℕ) → starts numeric t ≡ false → read_scalar (skip white (v ++ t)) ≡ some (j, skip white t)
unfolding read_scalar skip white read_word bind ◌or◌
scalar_complete v j false_text t n = refl
scalar_complete v j null_text t n = refl
scalar_complete v j true_text t n = refl
scalar_complete v j (number {s} m) t n = number_complete s m t n
scalar_complete v j (string (quoted {s} m)) t n = rw (append_assoc s (0x22 ∷ []) t) (binds (λ x. spaced (jstring x.0) x.1) (chars_complete m t))

pub scalar_read : ReadsTo (Scalar last_plain) read_scalar
scalar_read = record { sound = scalar_sound; complete = scalar_complete }
