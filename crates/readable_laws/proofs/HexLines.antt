-- A hex line is the one text of its frame.
use mathlib.Core.Path.{◌≡◌, refl, ap}
use mathlib.Core.Bool.{true, false}
use mathlib.Core.List.{[], ◌∷◌, ◌++◌}
use mathlib.Core.Option.{Option, none, some}
use Prim.Native.Nat.{ℕ, ◌+◌, ◌*◌, ◌-◌, ◌/◌, ◌%◌, ◌≤◌, ◌<◌}
use native.Mathlib.Omega.{arith}
use borrow.Author.Tests.{eqb-true, lt-ltb, le-ltb, ltb-true, ltb-false, le-leb, lt-leb, leb-true}
use lib.Dec.{eqb, leb, ltb}
use lib.ListN.{length}
use Rattle.text.specs.Test.{◌and◌, whether◌then◌else◌}
use Rattle.text.specs.Byte.{within, is_digit, is_hex, hex_value}
use Rattle.text.specs.String.{Str, joined}
use Rattle.text.proofs.Tests.{by, and_l, and_r, and_left, and_right}
use Rattle.table_line.specs.Lines.{pair, pairs, nonempty, frame}
use Rattle.readable_parts.specs.Parts.{hex_digit, hex_pair, hex_text}

-- ---- digits

module _ (n : ℕ) (h : n < 16) where
  pub digit_back : (is_hex (hex_digit n) ≡ true) × (hex_value (hex_digit n) ≡ n)
  digit_back =
      by (ltb n 10)
      (λ u. let l : n < 10 = ltb-true n 10 u in
      let a : leb 48 (48 + n) ≡ true = le-leb 48 (48 + n) (omega arith) in
      let b : leb (48 + n) 57 ≡ true = le-leb (48 + n) 57 (omega arith) in
      let c : (48 + n) - 48 ≡ n = omega arith in
      (rw (u, a, b), rw (u, a, b) c))
      (λ u. let l : 10 ≤ n = ltb-false n 10 u in
      let a : leb 48 (87 + n) ≡ true = le-leb 48 (87 + n) (omega arith) in
      let b : leb (87 + n) 57 ≡ false = lt-leb (87 + n) 57 (omega arith) in
      let c : leb 97 (87 + n) ≡ true = le-leb 97 (87 + n) (omega arith) in
      let d : leb (87 + n) 102 ≡ true = le-leb (87 + n) 102 (omega arith) in
      let e : (87 + n) - 87 ≡ n = omega arith in
      (rw (u, a, b, c, d), rw (u, a, b, c, d) e))

pub digit_forth : (x : ℕ) → is_hex x ≡ true → (hex_value x < 16) × (hex_digit (hex_value x) ≡ x)
digit_forth x e =
    by (is_digit x)
    (λ u. let a : 48 ≤ x = leb-true 48 x (and_left _ _ u) in
    let b : x ≤ 57 = leb-true x 57 (and_right (leb 48 x) _ u) in
    let c : ltb (x - 48) 10 ≡ true = lt-ltb (x - 48) 10 (omega arith) in
    let d : 48 + (x - 48) ≡ x = omega arith in
    (rw u (omega arith), rw (u, c) d))
    (λ u. let v : within 97 102 x ≡ true = rw u at e in
    let a : 97 ≤ x = leb-true 97 x (and_left _ _ v) in
    let b : x ≤ 102 = leb-true x 102 (and_right (leb 97 x) _ v) in
    let c : ltb (x - 87) 10 ≡ false = le-ltb (x - 87) 10 (omega arith) in
    let d : 87 + (x - 87) ≡ x = omega arith in
    (rw (u, v) (omega arith), rw (u, v, c) d))

-- ---- lines

-- every number is a byte
pub data Small : Str → Type 0 where
  none_left : Small []
  and_more : {b : ℕ} {s : Str} → b < 256 → Small s → Small (b ∷ s)

-- a pair of digits and the rest of the line
told : (x y : ℕ) (o : Option Str) (f : Str) → pair (is_hex x and is_hex y) (hex_value x * 16 + hex_value y) o ≡ some f
    → (g : Str) × (o ≡ some g) × (f ≡ (hex_value x * 16 + hex_value y) ∷ g) × (is_hex x ≡ true) × (is_hex y ≡ true)
unfolding pair
told x y none f e =
    by (is_hex x and is_hex y)
    (λ u. let z : none ≡ some f = rw u at e in let w : ◌≡◌ {A = ℕ} 0 1 = cc in absurd (omega arith))
    (λ u. let z : none ≡ some f = rw u at e in let w : ◌≡◌ {A = ℕ} 0 1 = cc in absurd (omega arith))
told x y (some g) f e =
    by (is_hex x and is_hex y)
    (λ u. let z : some ((hex_value x * 16 + hex_value y) ∷ g) ≡ some f = rw u at e in
    let i : f ≡ (hex_value x * 16 + hex_value y) ∷ g = cc in (g, refl, i, and_l _ _ u, and_r (is_hex x) _ u))
    (λ u. let z : none ≡ some f = rw u at e in let w : ◌≡◌ {A = ℕ} 0 1 = cc in absurd (omega arith))

pub pairs_text : (l f : Str) → pairs l ≡ some f → (l ≡ hex_text f ++ (10 ∷ [])) × Small f
unfolding pairs hex_text joined hex_pair whether◌then◌else◌
pairs_text [] f e = let w : ◌≡◌ {A = ℕ} 0 1 = cc in absurd (omega arith)
pairs_text (x ∷ []) f e =
    by (eqb x 10)
    (λ u. let z : some [] ≡ some f = rw u at e in
    let i : f ≡ [] = cc in
    let j : x ≡ 10 = eqb-true x 10 u in rw (i, j) (refl, none_left))
    (λ u. let z : none ≡ some f = rw u at e in let w : ◌≡◌ {A = ℕ} 0 1 = cc in absurd (omega arith))
pairs_text (x ∷ y ∷ s) f e =
    let t = told x y (pairs s) f e in
    let r = pairs_text s t.0 t.1 in
    let a = digit_forth x t.3 in
    let b = digit_forth y t.4 in
    let hi : (hex_value x * 16 + hex_value y) / 16 ≡ hex_value x = omega (arith, a.0, b.0) in
    let lo : (hex_value x * 16 + hex_value y) % 16 ≡ hex_value y = omega (arith, a.0, b.0) in
    rw t.2
    ((rw (hi, lo, a.1, b.1) (ap (λ (z : Str). x ∷ y ∷ z) r.0)), and_more {b = hex_value x * 16 + hex_value y} (omega (arith, a.0, b.0)) r.1)

pub text_pairs : (f : Str) → Small f → pairs (hex_text f ++ (10 ∷ [])) ≡ some f
unfolding pairs hex_text joined hex_pair pair ◌and◌ whether◌then◌else◌
text_pairs [] h = refl
text_pairs (b ∷ f) (and_more l h) =
    let x = digit_back (b / 16) (omega arith) in
    let y = digit_back (b % 16) (omega arith) in
    let n : (b / 16) * 16 + b % 16 ≡ b = omega arith in
    rw (x.0, y.0, x.1, y.1, n, text_pairs f h)

nonempty_some : (o : Option Str) (f : Str) → nonempty o ≡ some f → o ≡ some f
unfolding nonempty
nonempty_some none f e = e
nonempty_some (some []) f e = let w : ◌≡◌ {A = ℕ} 0 1 = cc in absurd (omega arith)
nonempty_some (some (b ∷ g)) f e = e

frame_pairs : (l f : Str) → frame l ≡ some f → pairs l ≡ some f
unfolding frame
frame_pairs l f e = nonempty_some (pairs l) f e

-- "One frame a line": the line of a frame, and only it
pub frame_text : (l f : Str) → frame l ≡ some f → (l ≡ hex_text f ++ (10 ∷ [])) × Small f
frame_text l f e = pairs_text l f (frame_pairs l f e)

pub text_frame : (f : Str) → Small f → 0 < length f → frame (hex_text f ++ (10 ∷ [])) ≡ some f
unfolding frame nonempty
text_frame [] h n = absurd (omega arith)
text_frame (b ∷ f) h n = rw (text_pairs (b ∷ f) h)
