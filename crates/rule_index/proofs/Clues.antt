-- A path has the clues of each rule that covers it.
use mathlib.Core.Path.{◌≡◌, refl, sym, ◌∙◌, subst}
use mathlib.Core.Bool.{true}
use mathlib.Core.Logic.{◌⊎◌, inl, inr}
use mathlib.Core.List.Memᴰ
use mathlib.Core.List.{List, [], ◌∷◌, ◌++◌}
use Rattle.text.specs.Test.{◌and◌, ◌∈◌}
use Rattle.text.specs.String.{Str}
use Rattle.text.proofs.Tests.{clash, and_l, and_r, only→}
use Rattle.path.specs.Path.{Key, Elem, Path}
use Rattle.verdict.specs.Cover.{definite, given, covers}
use Rattle.verdict.proofs.Paths.{meets→}
use Rattle.rule_index.specs.Clue.{values_of, values_given, values, rule_clues, path_clues}

-- ---- members of lists

module _ {A : Type 0} {x : A} where
  pub in_left : {xs : List A} (ys : List A) → x ∈ xs → x ∈ xs ++ ys
  in_left ys (Memᴰ.head p) = Memᴰ.head p
  in_left ys (Memᴰ.tail m) = Memᴰ.tail (in_left ys m)

  pub in_right : (xs : List A) {ys : List A} → x ∈ ys → x ∈ xs ++ ys
  in_right [] m = m
  in_right (y ∷ xs) m = Memᴰ.tail (in_right xs m)

  pub in_either : (xs ys : List A) → x ∈ xs ++ ys → (x ∈ xs) ⊎ (x ∈ ys)
  in_either [] ys m = inr m
  in_either (y ∷ xs) ys (Memᴰ.head p) = inl (Memᴰ.head p)
  in_either (y ∷ xs) ys (Memᴰ.tail m) = go (in_either xs ys m)
    where
      go : (x ∈ xs) ⊎ (x ∈ ys) → (x ∈ y ∷ xs) ⊎ (x ∈ ys)
      go (inl h) = inl (Memᴰ.tail h)
      go (inr h) = inr h

  pub in_cons : {y : A} {ys : List A} → x ∈ y ∷ ys → (x ≡ y) ⊎ (x ∈ ys)
  in_cons (Memᴰ.head p) = inl p
  in_cons (Memᴰ.tail m) = inr m

-- ---- values

value_key : (ks : List Key) {c : Str} → c ∈ values_of ks → (k : Key) × (k ∈ ks) × (c ≡ k.value)
unfolding values_of
value_key [] m = absurd (Memᴰ.not-nil m)
value_key (k ∷ ks) (Memᴰ.head p) = (k, Memᴰ.head refl, p)
value_key (k ∷ ks) (Memᴰ.tail m) = let r = value_key ks m in (r.0, Memᴰ.tail r.1, r.2)

key_value : {k : Key} {ks : List Key} → k ∈ ks → k.value ∈ values_of ks
unfolding values_of
key_value (Memᴰ.head p) = Memᴰ.head (λ i. (p i).value)
key_value (Memᴰ.tail m) = Memᴰ.tail (key_value m)

elem_values : (r d : Elem) → ((k : Key) → k ∈ definite r → k ∈ definite d) → {c : Str} → c ∈ values_of (definite r) → c ∈ values_of d.keys
unfolding definite
elem_values r d h m =
    let k = value_key (given r.keys) m in
    subst (λ (s : Str). s ∈ values_of d.keys) (sym k.2) (key_value (only→ _ d.keys (h k.0 k.1)).0)

covers_values : (rs ds : Path) → covers rs ds ≡ true → {c : Str} → c ∈ values_given rs → c ∈ values ds
unfolding covers values_given values
covers_values [] ds e m = absurd (Memᴰ.not-nil m)
covers_values (r ∷ rs) [] e m = clash e refl
covers_values (r ∷ rs) (d ∷ ds) e {c} m = go (covers_values rs ds (and_r _ _ e)) (in_either (values_of (definite r)) (values_given rs) m)
  where
    go : (c ∈ values_given rs → c ∈ values ds) → (c ∈ values_of (definite r)) ⊎ (c ∈ values_given rs) → c ∈ values_of d.keys ++ values ds
    go k (inl h) = in_left (values ds) (elem_values r d (meets→ r d (and_l _ _ e)).gives h)
    go k (inr h) = in_right (values_of d.keys) (k h)

-- ---- clues

pub covers_clues : (rs ds : Path) → covers rs ds ≡ true → {c : Str} → c ∈ rule_clues rs → c ∈ path_clues ds
unfolding covers rule_clues path_clues
covers_clues [] [] e m = m
covers_clues [] (d ∷ ds) e (Memᴰ.head p) = Memᴰ.head p
covers_clues [] (d ∷ ds) e (Memᴰ.tail n) = absurd (Memᴰ.not-nil n)
covers_clues (r ∷ rs) [] e m = clash e refl
covers_clues (r ∷ rs) (d ∷ ds) e (Memᴰ.head p) = Memᴰ.tail (Memᴰ.head (p ∙ (meets→ r d (and_l _ _ e)).name))
covers_clues (r ∷ rs) (d ∷ ds) e (Memᴰ.tail m) = Memᴰ.tail (Memᴰ.tail (covers_values (r ∷ rs) (d ∷ ds) e m))
