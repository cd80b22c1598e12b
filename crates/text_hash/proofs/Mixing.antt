-- One turn of the hash, its end, and its bounds.
use mathlib.Core.Path.{◌≡◌, sym, ◌∙◌}
use mathlib.Core.List.{List}
use Prim.Native.Nat.{ℕ, zero, suc, ◌+◌, ◌-◌, ◌*◌, ◌/◌, ◌≤◌, ◌<◌}
use native.Mathlib.Nat.{mod-lt, mul-le-mul}
use native.Mathlib.Omega.{arith}
use Rattle.text.specs.String.{Str}
use Rattle.text_hash.specs.declared.Seed.{Seed}
use Rattle.text_hash.specs.Mix.{word_at, middle, mix_from, mix, max_places, hash_of, place_of}

-- no product passes 64 bits
pub product : (x m : ℕ) → x < 8589934592 → m < 2147483648 → x * m < 18446744073709551616
product x m h l = omega (arith, mul-le-mul {n₁ = x} {m₁ = m} {n₂ = 8589934591} {m₂ = 2147483647} (omega arith) (omega arith))

module _ (s : Seed) (t : List ℕ) where
  pub mix_turn : (n k x y w x' y' m : ℕ) → 0 < n → w ≡ word_at t (4 * k) → x' ≡ middle ((x + w) * s.first) → y' ≡ middle ((y + x') * s.second)
      → m ≡ mix_from s t n k x y → m ≡ mix_from s t (n - 1) (k + 1) x' y'
  unfolding mix_from
  mix_turn zero k x y w x' y' m l e f g h = elim l [ ]
  mix_turn (suc n) k x y w x' y' m l e f g h = let i : suc n - 1 ≡ n = omega arith in h ∙ rw (i, g, f, e)

  pub mix_end : (n k x y m : ℕ) → (0 < n → ⊥) → m ≡ mix_from s t n k x y → y ≡ m
  unfolding mix_from
  mix_end zero k x y m l g = sym g
  mix_end (suc n) k x y m l g = absurd (l (omega arith))

  from_small : (n k x y : ℕ) → y < 4294967296 → mix_from s t n k x y < 4294967296
  unfolding mix_from
  from_small zero k x y l = l
  from_small (suc n) k x y l = from_small n _ _ _ (mod-lt (((y + middle ((x + word_at t (4 * k)) * s.first)) * s.second) / 65536) (omega arith))

pub mix_small : (s : Seed) (h : ℕ) (t : Str) → h < 4294967296 → mix s h t < 4294967296
unfolding mix
mix_small s h t l = from_small s t _ 0 0 h l

-- ---- a string's place

scaled : (y size : ℕ) → middle y * size ≤ 4294967295 * size
scaled y size = mul-le-mul {n₁ = middle y} {m₁ = size} {n₂ = 4294967295} {m₂ = size} (omega (arith, mod-lt (y / 65536) (let z : 0 < 4294967296 = omega arith in z))) (omega arith)

pub place_fits : (y size r : ℕ) → r ≡ middle y → size ≤ max_places → r * size < 18446744073709551616
place_fits y size r e l = rw e (omega (arith, scaled y size))

pub middle_small : (p : ℕ) → middle p < 4294967296
middle_small p = mod-lt (p / 65536) (omega arith)

module _ (s : Seed) (t : Str) where
  hash_small : hash_of s t < 4294967296
  hash_small = mix_small s _ t (middle_small (s.first * s.second))

  pub square_fits : (y : ℕ) → y ≡ hash_of s t → y * y < 18446744073709551616
  square_fits y e = omega (arith, mul-le-mul {n₁ = y} {m₁ = y} {n₂ = 4294967295} {m₂ = 4294967295} (omega (arith, e, hash_small)) (omega (arith, e, hash_small)))

  pub place_within : (size p : ℕ) → p ≡ place_of s size t → 0 < size → p < size
  unfolding place_of
  place_within size p e l = rw e (omega (arith, scaled (hash_of s t * hash_of s t) size))
