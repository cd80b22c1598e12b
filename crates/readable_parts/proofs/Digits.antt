-- One step of the program that writes hex digits.
use mathlib.Core.Path.{◌≡◌, refl}
use mathlib.Core.List.{List, [], ◌∷◌}
use Prim.Native.Nat.{ℕ, ◌+◌, ◌*◌, ◌/◌, ◌%◌, ◌≤◌, ◌<◌}
use native.Mathlib.Omega.{arith}
use lib.ListN.{length, drop, get_or, set}
use Rattle.text.specs.String.{Str, joined}
use Rattle.text.specs.Steps.{Wrote}
use Rattle.text.proofs.Filling.{Pending, fill_start, fill_set, fill_byte, wrote}
use Rattle.path_write.proofs.Writing.{joined_here, joined_end}
use Rattle.readable_parts.specs.Parts.{hex_digit, hex_pair, hex_text}

module _ (d : List ℕ) (to : ℕ) (w f out : List ℕ) (p i : ℕ) (g : Pending d to w out p (joined hex_pair (drop i f))) where
  pair_here : i < length f → Pending d to w out p (hex_digit (get_or f i 0 / 16) ∷ hex_digit (get_or f i 0 % 16) ∷ joined hex_pair (drop (i + 1) f))
  unfolding hex_pair
  pair_here h = rw (joined_here hex_pair f i h) at g

  module _ (h : i < length f) (hi lo : ℕ) (a : hi ≡ hex_digit (get_or f i 0 / 16)) where
    first_here : Pending d to w out p (hi ∷ hex_digit (get_or f i 0 % 16) ∷ joined hex_pair (drop (i + 1) f))
    first_here = rw a (pair_here h)

    pub pair_room : p < length out
    pair_room = fill_byte d to w out p _ _ first_here

    second_here : lo ≡ hex_digit (get_or f i 0 % 16) → Pending d to w (set out p hi) (p + 1) (lo ∷ joined hex_pair (drop (i + 1) f))
    second_here b = rw b (fill_set d to w out p _ _ first_here)

    pub second_room : lo ≡ hex_digit (get_or f i 0 % 16) → p + 1 < length (set out p hi)
    second_room b = fill_byte d to w (set out p hi) (p + 1) _ _ (second_here b)

    pub pair_turn : lo ≡ hex_digit (get_or f i 0 % 16) → Pending d to w (set (set out p hi) (p + 1) lo) (p + 2) (joined hex_pair (drop (i + 1) f))
    pair_turn b = let e : p + 2 ≡ p + 1 + 1 = omega arith in rw e (fill_set d to w (set out p hi) (p + 1) _ _ (second_here b))

  pub hex_done : length f ≤ i → Wrote d to w out p
  hex_done h = wrote d to w out p (rw (joined_end hex_pair f i h) at g)

pub hex_start : (d : List ℕ) (to : ℕ) (f : Str) → to + length (hex_text f) ≤ length d → Pending d to (hex_text f) d to (joined hex_pair f)
unfolding hex_text
hex_start d to f h = fill_start d to (joined hex_pair f) h

pub hex_length : (f : Str) → length (hex_text f) ≡ 2 * length f
unfolding hex_text joined hex_pair
hex_length [] = refl
hex_length (b ∷ f) = omega (arith, hex_length f)
