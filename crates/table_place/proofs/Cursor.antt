-- What stands at a position is its first part and the rest, and what lies within the bytes has its parts there.
use mathlib.Core.Path.{◌≡◌, refl, ap}
use mathlib.Core.List.{List, [], ◌∷◌}
use Prim.Native.Nat.{ℕ, zero, suc, ◌+◌, ◌-◌, ◌≤◌, ◌<◌}
use native.Mathlib.Omega.{arith}
use lib.ListN.{length, get_or, length-take, length-drop}
use Rattle.table_place.specs.Place.{str_end, str_in, key_end, key_in, keys_end, keys_in, key_count, elem_end, elem_in, elems_end, elems_in, path_end}

module _ (f : List ℕ) where
  pub str_grows : (p : ℕ) → p < str_end f p
  unfolding str_end
  str_grows p = omega arith

  pub length_str : (p : ℕ) → str_end f p ≤ length f → length (str_in f p) ≡ get_or f p 0
  unfolding str_in str_end
  length_str p h = simp (length-take, length-drop) (omega arith)

  -- ---- keys

  pub keys_grow : (k p : ℕ) → p ≤ keys_end k f p
  unfolding keys_end
  keys_grow zero p = omega arith
  keys_grow (suc k) p = omega (arith, str_grows p, str_grows (str_end f p), keys_grow k (key_end f p))

  pub keys_cons : (k p : ℕ) → 0 < k → keys_in k f p ≡ key_in f p ∷ keys_in (k - 1) f (key_end f p)
  unfolding keys_in
  keys_cons zero p z = absurd (omega arith)
  keys_cons (suc k) p z = let i : suc k - 1 ≡ k = omega arith in rw i

  pub keys_nil : (k p : ℕ) → k ≤ 0 → keys_in k f p ≡ []
  unfolding keys_in
  keys_nil zero p z = refl
  keys_nil (suc k) p z = absurd (omega arith)

  pub keys_step : (k p : ℕ) → 0 < k → keys_end k f p ≡ keys_end (k - 1) f (key_end f p)
  unfolding keys_end
  keys_step zero p z = absurd (omega arith)
  keys_step (suc k) p z = let i : suc k - 1 ≡ k = omega arith in rw i

  pub keys_stop : (k p : ℕ) → k ≤ 0 → keys_end k f p ≡ p
  unfolding keys_end
  keys_stop zero p z = refl
  keys_stop (suc k) p z = absurd (omega arith)

  -- where k keys end within the bytes, so does the first, and so do the others after it
  pub keys_room : (k p : ℕ) → 0 < k → keys_end k f p ≤ length f → (str_end f p ≤ length f) × (key_end f p ≤ length f) × (keys_end (k - 1) f (key_end f p) ≤ length f)
  keys_room k p z h =
      let a = keys_step k p z in
      let b = keys_grow (k - 1) (key_end f p) in
      let d = str_grows (str_end f p) in
      (omega arith, omega arith, omega arith)

  -- ---- elements

  pub elems_grow : (n p : ℕ) → p ≤ elems_end n f p
  unfolding elems_end elem_end
  elems_grow zero p = omega arith
  elems_grow (suc n) p = omega (arith, str_grows p, keys_grow (key_count f p) (str_end f p + 1), elems_grow n (elem_end f p))

  pub elems_cons : (n p : ℕ) → 0 < n → elems_in n f p ≡ elem_in f p ∷ elems_in (n - 1) f (elem_end f p)
  unfolding elems_in
  elems_cons zero p z = absurd (omega arith)
  elems_cons (suc n) p z = let i : suc n - 1 ≡ n = omega arith in rw i

  pub elems_nil : (n p : ℕ) → n ≤ 0 → elems_in n f p ≡ []
  unfolding elems_in
  elems_nil zero p z = refl
  elems_nil (suc n) p z = absurd (omega arith)

  pub elems_step : (n p : ℕ) → 0 < n → elems_end n f p ≡ elems_end (n - 1) f (elem_end f p)
  unfolding elems_end
  elems_step zero p z = absurd (omega arith)
  elems_step (suc n) p z = let i : suc n - 1 ≡ n = omega arith in rw i

  pub elem_room : (p : ℕ) → elem_end f p ≤ length f → (str_end f p < length f) × (keys_end (key_count f p) f (str_end f p + 1) ≤ length f)
  unfolding elem_end
  elem_room p h = let a = keys_grow (key_count f p) (str_end f p + 1) in (omega arith, omega arith)

  pub elems_room : (n p : ℕ) → 0 < n → elems_end n f p ≤ length f → (elem_end f p ≤ length f) × (elems_end (n - 1) f (elem_end f p) ≤ length f)
  elems_room n p z h =
      let a = elems_step n p z in
      let b = elems_grow (n - 1) (elem_end f p) in
      (omega arith, omega arith)

  pub path_room : (p : ℕ) → path_end f p ≤ length f → p < length f
  path_room p h = omega (arith, elems_grow (get_or f p 0) (p + 1))

  pub length_elems : (n p : ℕ) → length (elems_in n f p) ≡ n
  unfolding elems_in
  length_elems zero p = refl
  length_elems (suc n) p = ap suc (length_elems n (elem_end f p))

  -- ---- the bounds after a step

  pub keys_again : (k p b : ℕ) → 0 < k → keys_end k f p ≤ length f → b ≡ key_end f p → keys_end (k - 1) f b ≤ length f
  keys_again k p b z h i = rw i (keys_room k p z h).2

  pub elems_again : (n p b : ℕ) → 0 < n → elems_end n f p ≤ length f → b ≡ elem_end f p → elems_end (n - 1) f b ≤ length f
  elems_again n p b z h i = rw i (elems_room n p z h).1
