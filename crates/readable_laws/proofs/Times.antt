-- The time comes back: 8 bytes and 16 digits.
use mathlib.Core.Path.{◌≡◌, refl, sym, ap, ◌∙◌}
use mathlib.Core.Bool.{Bool, true, false}
use mathlib.Core.List.{List, [], ◌∷◌, ◌++◌, append-nil}
use mathlib.Core.Option.{Option, none, some}
use Prim.Native.Nat.{ℕ, zero, suc, ◌+◌, ◌-◌, ◌/◌, ◌%◌}
use native.Mathlib.Omega.{arith}
use borrow.Author.Tests.{eq-eqb, ne_eqb, eqb-true}
use lib.Dec.{eqb, ltb}
use lib.ListN.{length, take, drop, length-append, length-drop}
use lib.Seq.{take_at, drop-length}
use Rattle.text.specs.Test.{whether◌then◌else◌}
use Rattle.text.specs.String.{Str, joined}
use Rattle.text.specs.Frame.{got}
use Rattle.text.proofs.Tests.{by}
use Rattle.text.proofs.Codec.{never_got, got_move, Took, Gives}
use Rattle.table_line.specs.Lines.{lines, onto, frame}
use Rattle.readable_parts.specs.Parts.{rest, alone, hex_digit, hex_pair, hex_text, shown_time, packed_time}
use Rattle.readable_parts.proofs.Digits.{hex_length}
use Rattle.readable_laws.proofs.HexLines.{Small, and_more, frame_text, text_frame}
use Rattle.readable_laws.proofs.Inverse.{BackLast}
use Rattle.readable_laws.proofs.Return.{all_took}

-- ---- lines

-- a byte before lines is a byte before their text
onto_text : (x : ℕ) (t : Bool) (ls : List Str) → joined (λ l. l) (onto t x ls) ≡ x ∷ joined (λ l. l) ls
unfolding onto joined
onto_text x true ls = refl
onto_text x false [] = refl
onto_text x false (l ∷ ls) = refl

-- the lines of a text, one after another, are the text
pub lines_text : (s : Str) → joined (λ l. l) (lines s) ≡ s
unfolding lines
lines_text [] = unfold joined in refl
lines_text (x ∷ s) = onto_text x (eqb x 10) (lines s) ∙ ap (λ (z : Str). x ∷ z) (lines_text s)

pub snoc_same : (a b : Str) (x : ℕ) → a ++ (x ∷ []) ≡ b ++ (x ∷ []) → a ≡ b
snoc_same a b x e =
    let l : length a ≡ length b = (let p = length-append a (x ∷ []) in let q = length-append b (x ∷ []) in let r = ap length e in omega arith) in
    sym (take_at a (x ∷ []) (length a) refl) ∙ ap (take (length a)) e ∙ rw l (take_at b (x ∷ []) (length b) refl)

no_LF : (n : ℕ) → eqb (hex_digit n) 10 ≡ false
no_LF n = by (ltb n 10) (λ u. rw u (ne_eqb (48 + n) 10 (λ z. omega arith))) (λ u. rw u (ne_eqb (87 + n) 10 (λ z. omega arith)))

-- hex digits and an LF are one line
pub hex_line_lem : (f more : Str) → lines (hex_text f ++ (10 ∷ more)) ≡ (hex_text f ++ (10 ∷ [])) ∷ lines more
unfolding lines hex_text joined hex_pair onto
hex_line_lem [] more = refl
hex_line_lem (b ∷ f) more = rw (no_LF (b / 16), no_LF (b % 16), hex_line_lem f more)

alone_is : (ls : List Str) (f : Str) → alone ls ≡ some f → (l : Str) × (ls ≡ l ∷ []) × (frame l ≡ some f)
unfolding alone
alone_is [] f e = let w : ◌≡◌ {A = ℕ} 0 1 = cc in absurd (omega arith)
alone_is (l ∷ []) f e = (l, refl, e)
alone_is (l ∷ m ∷ ls) f e = let w : ◌≡◌ {A = ℕ} 0 1 = cc in absurd (omega arith)

-- a single hex line
alone_text : (x f : Str) → alone (lines (x ++ (10 ∷ []))) ≡ some f → x ≡ hex_text f
alone_text x f e =
    let a = alone_is (lines (x ++ (10 ∷ []))) f e in
    let b : x ++ (10 ∷ []) ≡ a.0 = sym (lines_text (x ++ (10 ∷ []))) ∙ ap (joined (λ l. l)) a.1 ∙ one a.0 in
    snoc_same x (hex_text f) 10 (b ∙ (frame_text a.0 f a.2).0)
  where
    one : (l : Str) → joined (λ z. z) (l ∷ []) ≡ l
    one l = unfold joined in append-nil l

rest_some : (o : Option Str) (t : ℕ) (b : Str) (u : ℕ) → rest o t ≡ got b u → (o ≡ some b) × (t ≡ u)
unfolding rest
rest_some none t b u e = never_got refl e
rest_some (some c) t b u e = let i : c ≡ b = cc in let j : t ≡ u = cc in (ap some i, j)

pub small_drop : (k : ℕ) (s : Str) → Small s → Small (drop k s)
small_drop zero s h = h
small_drop (suc k) [] h = h
small_drop (suc k) (x ∷ s) (and_more l h) = small_drop k s h

-- ---- the time

shown_time_lem : (f : Str) (k : ℕ) (b : Str) → length b ≡ 8 → drop k f ≡ b → Gives (shown_time f k) f (hex_text b) []
unfolding shown_time whether◌then◌else◌
shown_time_lem f k b h i =
    let l : length f - k ≡ 8 = sym (length-drop k f) ∙ ap length i ∙ h in
    (length f, rw (eq-eqb (length f - k) 8 l, i), drop-length f)

packed_time_lem : (s : Str) (k : ℕ) (x : Str) → Small x → length x ≡ 8 → drop k s ≡ hex_text x → Gives (packed_time s k) s x []
unfolding packed_time whether◌then◌else◌ rest alone
packed_time_lem s k x m h i =
    let l : length s - k ≡ 16 = sym (length-drop k s) ∙ ap length i ∙ (let z = hex_length x in let y : length (hex_text x) ≡ 16 = omega arith in y) in
    (length s, rw (eq-eqb (length s - k) 16 l, i, hex_line_lem x [], no_lines, text_frame x m (omega arith)), drop-length s)
  where
    no_lines : lines [] ≡ []
    no_lines = unfold lines in refl

module _ (P : Str → Type 0) where
  pub time_packed : BackLast P packed_time shown_time
  unfolding packed_time whether◌then◌else◌
  time_packed s at b t z l e =
      by (eqb (length s - at) 16)
      (λ u. let r = rest_some (alone (lines (drop at s ++ (10 ∷ [])))) (length s) b t (rw u at e) in
      let x : drop at s ≡ hex_text b = alone_text (drop at s) b r.0 in
      let n : length b ≡ 8 = (let y = hex_length b in let v = length-drop at s in let w = ap length x in let q = eqb-true (length s - at) 16 u in omega arith) in
      (hex_text b, rw (r.1, x) at (all_took s at), λ f k i. shown_time_lem f k b n i))
      (λ u. never_got refl (rw u at e))

pub time_shown : BackLast Small shown_time packed_time
unfolding shown_time whether◌then◌else◌
time_shown f at w t z l e =
    by (eqb (length f - at) 8)
    (λ u. got_move (λ d q. (b : Str) × Took f at b q × ((s : Str) (k : ℕ) → drop k s ≡ d → Gives (packed_time s k) s b [])) (rw u at e)
    (drop at f, all_took f at, λ s k i. packed_time_lem s k (drop at f) (small_drop at f z) (length-drop at f ∙ eqb-true _ _ u) i))
    (λ u. never_got refl (rw u at e))
