-- What the first line of a text is, where its digits end.
use mathlib.Core.Path.{◌≡◌, refl, sym, ap, ◌∙◌}
use mathlib.Core.Bool.{Bool, true, false}
use mathlib.Core.List.{List, [], ◌∷◌}
use Rattle.std.specs.Prelude.{Option, None, Some}
use mathlib.Core.Option.{none, some}
use mathlib.Core.Option as frames
use Prim.Native.Nat.{ℕ, suc, ◌+◌, ◌*◌, ◌≤◌, ◌<◌}
use native.Mathlib.Omega.{arith}
use borrow.Author.Tests.{eqb-true, eqb-false, eq-eqb, ne_eqb, ltb-true, ltb-false}
use lib.Dec.{eqb, ltb}
use lib.ListN.{length, drop, get_or, length-drop}
use lib.Seq.{drop-drop, get_or-drop}
use Rattle.text.specs.Test.{◌and◌, whether◌then◌else◌}
use Rattle.text.specs.Byte.{is_hex}
use Rattle.text.specs.String.{Str}
use Rattle.text.proofs.Tests.{by, and_l, and_r, clash}
use Rattle.table_line.specs.Lines.{onto, lines, pair, pairs, nonempty, frame}
use Rattle.table_line.specs.Decoding.{digits, taken, first_line}
use Rattle.table_line.specs.declared.Line.{Line}
use Rattle.table_line.proofs.Digits.{digits_half}

-- a digit is no LF
no_LF : (x : ℕ) → is_hex x ≡ true → eqb x 10 ≡ false
no_LF x h = by (eqb x 10) (λ e. let i : x ≡ 10 = eqb-true _ _ e in clash (rw i at h) refl) (λ e. e)

-- the line starts s, its digits are those of s, and it ends with an LF
pub record Ended (s : Str) (n : ℕ) : Type 0 where
  pub line : Str
  pub first : lines s ≡ line ∷ lines (drop (2 * n + 1) s)
  pub bytes : pairs line ≡ some (digits s)
  pub long : length line ≡ 2 * n + 1

alone : (x : ℕ) (s : Str) → x ≡ 10 → digits (x ∷ s) ≡ [] → Ended (x ∷ s) 0
unfolding lines onto pairs whether◌then◌else◌
alone x s e d = record { line = x ∷ []; first = rw (eq-eqb x 10 e); bytes = rw (eq-eqb x 10 e, d); long = refl }

more : (x y : ℕ) (s : Str) (n : ℕ) → (is_hex x and is_hex y) ≡ true → Ended s n → Ended (x ∷ y ∷ s) (suc n)
unfolding lines onto pairs pair digits whether◌then◌else◌
more x y s n t g = record {
  line = x ∷ y ∷ g.line;
  first =
      let d : 2 * suc n + 1 ≡ suc (suc (2 * n + 1)) = omega arith in
      rw (no_LF x (and_l _ _ t), no_LF y (and_r _ _ t), g.first, d);
  bytes = rw (t, g.bytes);
  long = omega (arith, g.long);
}

digits_more : (x y : ℕ) (s : Str) → (is_hex x and is_hex y) ≡ true → length (digits (x ∷ y ∷ s)) ≡ suc (length (digits s))
unfolding digits whether◌then◌else◌
digits_more x y s t = rw t

digits_none : (x y : ℕ) (s : Str) → (is_hex x and is_hex y) ≡ false → digits (x ∷ y ∷ s) ≡ []
unfolding digits whether◌then◌else◌
digits_none x y s t = rw t

digits_one : (x : ℕ) → digits (x ∷ []) ≡ []
unfolding digits
digits_one x = refl

module _ (x y : ℕ) (s : Str) (n m : ℕ) (e : n ≡ suc m) where
  later : get_or (x ∷ y ∷ s) (2 * n) 0 ≡ get_or s (2 * m) 0
  later = let b : 2 * n ≡ suc (suc (2 * m)) = omega arith in ap (λ (j : ℕ). get_or (x ∷ y ∷ s) j 0) b

start : (x : ℕ) (s : Str) (n : ℕ) → n ≡ 0 → get_or (x ∷ s) (2 * n) 0 ≡ x
start x s n e = let b : 2 * n ≡ 0 = omega arith in ap (λ (j : ℕ). get_or (x ∷ s) j 0) b

ended_alone : (x : ℕ) (s : Str) (n : ℕ) → n ≡ 0 → get_or (x ∷ s) (2 * n) 0 ≡ 10 → digits (x ∷ s) ≡ [] → Ended (x ∷ s) n
ended_alone x s n a k d = rw a (alone x s (sym (start x s n a) ∙ k) d)

ended_more : (x y : ℕ) (s : Str) (n m : ℕ) → n ≡ suc m → (is_hex x and is_hex y) ≡ true → Ended s m → Ended (x ∷ y ∷ s) n
ended_more x y s n m a t g = rw a (more x y s m t g)

pub ended : (s : Str) (n : ℕ) → n ≡ length (digits s) → 2 * n < length s → get_or s (2 * n) 0 ≡ 10 → Ended s n
ended [] n e h k = absurd (omega arith)
ended (x ∷ []) n e h k = ended_alone x [] n (e ∙ ap length (digits_one x)) k (digits_one x)
ended (x ∷ y ∷ s) n e h k =
    by (is_hex x and is_hex y)
    (λ t.
    let a : n ≡ suc (length (digits s)) = e ∙ digits_more x y s t in
    ended_more x y s n (length (digits s)) a t (ended s (length (digits s)) refl (omega arith) (sym (later x y s n (length (digits s)) a) ∙ k)))
    (λ t. ended_alone x (y ∷ s) n (e ∙ ap length (digits_none x y s t)) k (digits_none x y s t))

-- ---- a line that does not end so

-- the first of some lines
unfoldable pub head : List Str → Str
head [] = []
head (l ∷ ls) = l

head_two : (x y : ℕ) (ls : List Str) → eqb x 10 ≡ false → eqb y 10 ≡ false → head (onto (eqb x 10) x (onto (eqb y 10) y ls)) ≡ x ∷ y ∷ head ls
unfolding onto head
head_two x y [] e f = rw (e, f)
head_two x y (l ∷ ls) e f = rw (e, f)

-- whatever follows, the line goes on with y
head_next : (x y : ℕ) (ls : List Str) (t : Bool) → eqb x 10 ≡ false → (r : Str) × (head (onto (eqb x 10) x (onto t y ls)) ≡ x ∷ y ∷ r)
unfolding onto head
head_next x y ls true e = ([], rw e)
head_next x y [] false e = ([], rw e)
head_next x y (l ∷ ls) false e = (l, rw e)

pairs_more : (x y : ℕ) (r : Str) → pairs r ≡ none → (is_hex x and is_hex y) ≡ true → pairs (x ∷ y ∷ r) ≡ none
unfolding pairs pair
pairs_more x y r e t = rw (t, e)

pairs_none : (x y : ℕ) (r : Str) → (is_hex x and is_hex y) ≡ false → pairs (x ∷ y ∷ r) ≡ none
unfolding pairs pair
pairs_none x y r t = rw t

pairs_one : (x : ℕ) → eqb x 10 ≡ false → pairs (head (lines (x ∷ []))) ≡ none
unfolding pairs head lines onto whether◌then◌else◌
pairs_one x e = rw (e, e)

no_pairs : pairs (head (lines [])) ≡ none
unfolding pairs head lines
no_pairs = refl

pub unended : (s : Str) (n : ℕ) → n ≡ length (digits s) → (2 * n < length s → get_or s (2 * n) 0 ≡ 10 → ⊥) → pairs (head (lines s)) ≡ none
unfolding lines
unended [] n e k = no_pairs
unended (x ∷ []) n e k =
    let a : n ≡ 0 = e ∙ ap length (digits_one x) in
    pairs_one x (ne_eqb x 10 (λ p. k (omega arith) (start x [] n a ∙ p)))
unended (x ∷ y ∷ s) n e k =
    by (is_hex x and is_hex y)
    (λ t.
    let a : n ≡ suc (length (digits s)) = e ∙ digits_more x y s t in
    ap pairs (head_two x y (lines s) (no_LF x (and_l _ _ t)) (no_LF y (and_r _ _ t)))
    ∙ pairs_more x y (head (lines s)) (unended s (length (digits s)) refl (λ l p. k (omega arith) (later x y s n (length (digits s)) a ∙ p))) t)
    (λ t.
    let a : n ≡ 0 = e ∙ ap length (digits_none x y s t) in
    let r = head_next x y (lines s) (eqb y 10) (ne_eqb x 10 (λ p. k (omega arith) (start x (y ∷ s) n a ∙ p))) in
    ap pairs r.1 ∙ pairs_none x y r.0 t)

-- ---- the answer

onto_cons : (t : Bool) (b : ℕ) (ls : List Str) → (l : Str) × (ms : List Str) × (onto t b ls ≡ l ∷ ms)
unfolding onto
onto_cons true b ls = (b ∷ [], ls, refl)
onto_cons false b [] = (b ∷ [], [], refl)
onto_cons false b (l ∷ ls) = (b ∷ l, ls, refl)

-- there is a line where there are bytes
pub lines_cons : (s : Str) → 0 < length s → (l : Str) × (ls : List Str) × (lines s ≡ l ∷ ls)
unfolding lines
lines_cons [] h = absurd (omega arith)
lines_cons (x ∷ s) h = onto_cons (eqb x 10) x (lines s)

first_bad : (from : ℕ) (ls : List Str) → frame (head ls) ≡ none → first_line from ls ≡ None
unfolding first_line head taken
first_bad from [] e = refl
first_bad from (l ∷ ls) e = rw e

frame_bad : (l : Str) → pairs l ≡ none → frame l ≡ none
unfolding frame nonempty
frame_bad l e = rw e

frame_got : (l b : Str) → pairs l ≡ some b → 0 < length b → frame l ≡ some b
unfolding frame nonempty
frame_got l [] e h = absurd (omega arith)
frame_got l (x ∷ b) e h = rw e

frame_empty : (l b : Str) → pairs l ≡ some b → length b ≡ 0 → frame l ≡ none
unfolding frame nonempty
frame_empty l [] e h = rw e
frame_empty l (x ∷ b) e h = absurd (omega arith)

module _ (s : Str) (from n : ℕ) (e : n ≡ length (digits s)) where
  pub line_bad : (2 * n < length s → get_or s (2 * n) 0 ≡ 10 → ⊥) → None ≡ first_line from (lines s)
  line_bad k = sym (first_bad from (lines s) (frame_bad _ (unended s n e k)))

  module _ (h : 2 * n < length s) (k : get_or s (2 * n) 0 ≡ 10) where
    pub line_empty : n ≡ 0 → None ≡ first_line from (lines s)
    unfolding first_line taken
    line_empty z = let g = ended s n e h k in rw (g.first, frame_empty g.line (digits s) g.bytes (sym e ∙ z))

    pub line_good : 0 < n → Some (record { len = n; next = from + 2 * n + 1 }) ≡ first_line from (lines s)
    unfolding first_line taken
    line_good z =
        let g = ended s n e h k in
        let a : from + 2 * n + 1 ≡ from + (2 * n + 1) = omega arith in
        rw (g.first, frame_got g.line (digits s) g.bytes (omega arith), g.long, ← e, a)

-- ---- at a position of the text

module _ (text : Str) (from n : ℕ) (e : n ≡ length (digits (drop from text))) where
  pub room : from ≤ length text → from + 2 * n ≤ length text
  room h = omega (arith, digits_half (drop from text), length-drop from text)

  pub at_end_lem : length text ≤ from + 2 * n → None ≡ first_line from (lines (drop from text))
  at_end_lem h = line_bad (drop from text) from n e (λ l k. omega (arith, length-drop from text))

  pub at_other : (get_or text (from + 2 * n) 0 ≡ 10 → ⊥) → None ≡ first_line from (lines (drop from text))
  at_other h = line_bad (drop from text) from n e (λ l k. h (sym (get_or-drop from text (2 * n) 0) ∙ k))

  module _ (h : from + 2 * n < length text) (k : get_or text (from + 2 * n) 0 ≡ 10) where
    pub at_empty : n ≡ 0 → None ≡ first_line from (lines (drop from text))
    at_empty z = line_empty (drop from text) from n e (omega (arith, length-drop from text)) (get_or-drop from text (2 * n) 0 ∙ k) z

    pub at_LF : (n ≡ 0 → ⊥) → Some (record { len = n; next = from + 2 * n + 1 }) ≡ first_line from (lines (drop from text))
    at_LF z = line_good (drop from text) from n e (omega (arith, length-drop from text)) (get_or-drop from text (2 * n) 0 ∙ k) (omega arith)

-- what an answer of read_line tells
pub record Read (text : Str) (from len next : ℕ) : Type 0 where
  pub line : Str
  pub first : lines (drop from text) ≡ line ∷ lines (drop next text)
  pub is : frame line ≡ some (digits (drop from text))
  pub size : len ≡ length (digits (drop from text))
  pub goes : next ≡ from + 2 * len + 1
  pub some' : 0 < len
  pub ends : next ≤ length text

never : {X : Type 0} {l : Line} → None ≡ Some l → X
never e = let z : ◌≡◌ {A = ℕ} 0 1 = cc in absurd (omega arith)

module _ (text : Str) (from : ℕ) (r : Option Line) (i : r ≡ first_line from (lines (drop from text))) where
  pub line_read : from ≤ length text → (l : Line) → r ≡ Some l → Read text from l.len l.next
  line_read f got g =
      let len = got.len in
      let next = got.next in
      let n = length (digits (drop from text)) in
      by (ltb (from + 2 * n) (length text))
      (λ a.
      let h : from + 2 * n < length text = ltb-true _ _ a in
      by (eqb (get_or text (from + 2 * n) 0) 10)
      (λ b.
      let k : get_or text (from + 2 * n) 0 ≡ 10 = eqb-true _ _ b in
      by (eqb n 0)
      (λ c. never (at_empty text from n refl h k (eqb-true _ _ c) ∙ sym i ∙ g))
      (λ c.
      let z : n ≡ 0 → ⊥ = eqb-false _ _ c in
      let q : Some (record { len = n; next = from + 2 * n + 1 }) ≡ Some got = at_LF text from n refl h k z ∙ sym i ∙ g in
      let w : Line = record { len = n; next = from + 2 * n + 1 } in
      let o : w ≡ got = cc in
      let x : len ≡ n = sym (ap (λ (l : Line). l.len) o) in
      let y : next ≡ from + 2 * n + 1 = sym (ap (λ (l : Line). l.next) o) in
      let m = ended (drop from text) n refl (omega (arith, length-drop from text)) (get_or-drop from text (2 * n) 0 ∙ k) in
      let j : from + (2 * n + 1) ≡ next = omega arith in
      let d : drop (2 * n + 1) (drop from text) ≡ drop next text = drop-drop (2 * n + 1) from text ∙ ap (λ (o : ℕ). drop o text) j in
      record {
        line = m.line;
        first = m.first ∙ ap (λ (t : Str). m.line ∷ lines t) d;
        is = frame_got m.line (digits (drop from text)) m.bytes (omega arith);
        size = x;
        goes = omega arith;
        some' = omega arith;
        ends = omega arith;
      }))
      (λ b. never (at_other text from n refl (eqb-false _ _ b) ∙ sym i ∙ g)))
      (λ a. never (at_end_lem text from n refl (ltb-false _ _ a) ∙ sym i ∙ g))

-- where the line is no hex line
pub record Unhex (text : Str) (from : ℕ) : Type 0 where
  pub line : Str
  pub others : List Str
  pub first : lines (drop from text) ≡ line ∷ others
  pub is : frame line ≡ none

bad_frame : (from : ℕ) (l : Str) (ls : List Str) (x : frames.Option Str) → frame l ≡ x → None ≡ first_line from (l ∷ ls) → frame l ≡ none
unfolding first_line taken
bad_frame from l ls none e g = e
bad_frame from l ls (some f) e g = let h : None ≡ Some (record { len = length f; next = from + length l }) = g ∙ rw e in never h

pub line_unhex : (text : Str) (from : ℕ) (r : Option Line) → r ≡ first_line from (lines (drop from text)) → from < length text → r ≡ None → Unhex text from
line_unhex text from r i h g =
    let c = lines_cons (drop from text) (omega (arith, length-drop from text)) in
    record { line = c.0; others = c.1; first = c.2; is = bad_frame from c.0 c.1 (frame c.0) refl (sym g ∙ i ∙ ap (first_line from) c.2) }
