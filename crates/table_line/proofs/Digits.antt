-- Decoding pairs of digits, one turn at a time.
use mathlib.Core.Path.{◌≡◌, refl, ◌∙◌}
use mathlib.Core.Bool.{Bool, true, false, not, cond, ◌||◌}
use mathlib.Core.List.{List, [], ◌∷◌}
use Prim.Native.Nat.{ℕ, suc, ◌+◌, ◌-◌, ◌*◌, ◌/◌, ◌≤◌, ◌<◌, zero-le}
use native.Mathlib.Omega.{arith}
use borrow.Author.Tests.{leb-true, le-ltb, ltb-false}
use lib.Dec.{ltb, leb}
use lib.ListN.{length, drop, get_or, set, length-drop}
use lib.Seq.{drop-cons}
use Rattle.text.specs.Test.{◌and◌, whether◌then◌else◌}
use Rattle.text.specs.Byte.{is_hex, hex_value, is_digit, within}
use Rattle.text.specs.Fill.{put}
use Rattle.text.proofs.Tests.{by, and_right, clash}
use Rattle.text.proofs.Filling.{Pending, fill_start, fill_set, fill_byte, fill_done}
use Rattle.table_line.specs.Decoding.{digits}

-- ---- a byte is a digit exactly if its value is below 16

hex_cases : (b : ℕ) (t u : Bool) → is_digit b ≡ t → within 97 102 b ≡ u → (t || u) ≡ not (ltb 15 (cond t (b - 48) (cond u (b - 87) 16)))
hex_cases b true u e f = let h : b ≤ 57 = leb-true _ _ (and_right (leb 48 b) _ e) in rw (le-ltb 15 (b - 48) (omega arith))
hex_cases b false true e f = let h : b ≤ 102 = leb-true _ _ (and_right (leb 97 b) _ f) in rw (le-ltb 15 (b - 87) (omega arith))
hex_cases b false false e f = refl

pub hex_test : (b : ℕ) → is_hex b ≡ not (ltb 15 (hex_value b))
hex_test b = hex_cases b (is_digit b) (within 97 102 b) refl refl

unless : (a b : Bool) → (not a and not b) ≡ not (a || b)
unfolding ◌and◌
unless true b = refl
unless false b = refl

pub both_hex : (x y : ℕ) → (is_hex x and is_hex y) ≡ not (ltb 15 (hex_value x) || ltb 15 (hex_value y))
both_hex x y = rw (hex_test x, hex_test y) (unless (ltb 15 (hex_value x)) (ltb 15 (hex_value y)))

-- ---- a turn

two : (s : List ℕ) (i : ℕ) → i + 1 < length s → drop i s ≡ get_or s i 0 ∷ get_or s (i + 1) 0 ∷ drop (i + 2) s
two s i h =
    let a : i + 1 ≡ suc i = omega arith in
    let b : i + 2 ≡ suc (suc i) = omega arith in
    rw (a, b, drop-cons s i 0 (omega arith), drop-cons s (suc i) 0 (omega arith))

module _ (s : List ℕ) (i hi lo : ℕ) (h : i + 1 < length s) (e : hi ≡ hex_value (get_or s i 0)) (f : lo ≡ hex_value (get_or s (i + 1) 0)) where
  pub digits_turn : (ltb 15 hi || ltb 15 lo) ≡ false → digits (drop i s) ≡ (hi * 16 + lo) ∷ digits (drop (i + 2) s)
  unfolding digits whether◌then◌else◌
  digits_turn g =
      let t : (is_hex (get_or s i 0) and is_hex (get_or s (i + 1) 0)) ≡ true = both_hex (get_or s i 0) (get_or s (i + 1) 0) ∙ rw (← e, ← f, g) in
      rw (two s i h, t, e, f)

  pub digits_stop : (ltb 15 hi || ltb 15 lo) ≡ true → digits (drop i s) ≡ []
  unfolding digits whether◌then◌else◌
  digits_stop g =
      let t : (is_hex (get_or s i 0) and is_hex (get_or s (i + 1) 0)) ≡ false = both_hex (get_or s i 0) (get_or s (i + 1) 0) ∙ rw (← e, ← f, g) in
      rw (two s i h, t)

short : (s : List ℕ) → length s ≤ 1 → digits s ≡ []
unfolding digits
short [] h = refl
short (x ∷ []) h = refl
short (x ∷ y ∷ s) h = absurd (omega arith)

pub digits_end : (s : List ℕ) (i : ℕ) → length s ≤ i + 1 → digits (drop i s) ≡ []
digits_end s i h = short (drop i s) (omega (arith, length-drop i s))

-- ---- how many

pub digits_half : (s : List ℕ) → 2 * length (digits s) ≤ length s
unfolding digits whether◌then◌else◌
digits_half [] = zero-le
digits_half (x ∷ []) = zero-le
digits_half (x ∷ y ∷ s) = by (is_hex x and is_hex y) (λ t. rw t (omega (arith, digits_half s))) (λ t. rw t zero-le)

-- ---- storing them

pub decode_start : (s d : List ℕ) (from at : ℕ) → at + (length s - from) / 2 ≤ length d → Pending d at (digits (drop from s)) d at (digits (drop from s))
decode_start s d from at h = fill_start d at (digits (drop from s)) (omega (arith, digits_half (drop from s), length-drop from s))

module _ (d : List ℕ) (at : ℕ) (w out : List ℕ) (k : ℕ) (r : List ℕ) where
  pub decode_room : (b : ℕ) (t : List ℕ) → Pending d at w out k r → r ≡ b ∷ t → k < length out
  decode_room b t g e = fill_byte d at w out k b t (rw e at g)

  pub decode_turn : (b : ℕ) (t : List ℕ) → Pending d at w out k r → r ≡ b ∷ t → Pending d at w (set out k b) (k + 1) t
  decode_turn b t g e = fill_set d at w out k b t (rw e at g)

  pub decode_done : at ≤ k → Pending d at w out k r → r ≡ [] → (k - at ≡ length w) × (out ≡ put d at w)
  decode_done h g e = let i = fill_done d at w out k (rw e at g) in (omega (arith, i.0), i.1)

pub value_fits : (hi lo x y : ℕ) → hi ≡ x → lo ≡ y → (ltb 15 hi || ltb 15 lo) ≡ false → (hi ≤ 15) × (lo ≤ 15)
value_fits hi lo x y p q e = by (ltb 15 hi) (λ t. clash refl (rw t at e)) (λ t. (ltb-false 15 hi t, ltb-false 15 lo (rw t at e)))
