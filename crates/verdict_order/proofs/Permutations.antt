-- What a list and the same list in another order have in common.
use mathlib.Core.Path.{◌≡◌, refl, ap, ◌∙◌}
use mathlib.Core.List.Permᴰ
use mathlib.Core.List.{List, ◌∷◌, ◌++◌, filter_map, Permᴰ}
use mathlib.Core.Option.{Option, none, some, Option-elim}
use Prim.Native.Nat.{ℕ, suc, ◌+◌}
use native.Mathlib.Omega.{arith}
use lib.ListN.{length, length-append}
use Rattle.text.specs.String.{Str, joined}

module _ {A : Type 0} where
  pub perm_length : {xs ys : List A} → Permᴰ xs ys → length xs ≡ length ys
  perm_length Permᴰ.nil = refl
  perm_length (Permᴰ.cons e d) = ap suc (perm_length d)
  perm_length (Permᴰ.swap e f) = refl
  perm_length (Permᴰ.trans d e) = perm_length d ∙ perm_length e

  module _ {B : Type 0} (f : A → Option B) where
    -- one more, if there is one
    abbrev maybe : Option B → List B → List B
    maybe x xs = Option-elim x xs (λ b. b ∷ xs)

    onto : (x y : Option B) (xs ys : List B) → x ≡ y → Permᴰ xs ys → Permᴰ (maybe x xs) (maybe y ys)
    unfolding Option-elim
    onto none none xs ys e d = d
    onto none (some b) xs ys e d = let z : ◌≡◌ {A = ℕ} 0 1 = cc in absurd (omega arith)
    onto (some a) none xs ys e d = let z : ◌≡◌ {A = ℕ} 0 1 = cc in absurd (omega arith)
    onto (some a) (some b) xs ys e d = let i : a ≡ b = cc in Permᴰ.cons i d

    change : (x y : Option B) (xs : List B) → Permᴰ (maybe x (maybe y xs)) (maybe y (maybe x xs))
    unfolding Option-elim
    change none y xs = Permᴰ.refl (maybe y xs)
    change (some a) none xs = Permᴰ.refl (a ∷ xs)
    change (some a) (some b) xs = Permᴰ.swap refl refl

    -- what f finds in the one, it finds in the other
    pub perm_filter_map : {xs ys : List A} → Permᴰ xs ys → Permᴰ (filter_map f xs) (filter_map f ys)
    unfolding filter_map
    perm_filter_map Permᴰ.nil = Permᴰ.nil
    perm_filter_map (Permᴰ.cons {a} {b} {l₁ = xs} {l₂ = ys} e d) = onto (f a) (f b) (filter_map f xs) (filter_map f ys) (ap f e) (perm_filter_map d)
    perm_filter_map (Permᴰ.swap {a} {b} {a'} {b'} {l} e g) =
        Permᴰ.trans (change (f a) (f b) (filter_map f l))
        (onto (f b) (f a') (maybe (f a) (filter_map f l)) (maybe (f b') (filter_map f l)) (ap f g) (onto (f a) (f b') (filter_map f l) (filter_map f l) (ap f e) (Permᴰ.refl (filter_map f l))))
    perm_filter_map (Permᴰ.trans d e) = Permᴰ.trans (perm_filter_map d) (perm_filter_map e)

-- lines in another order are as long together
pub perm_joined : {xs ys : List Str} → Permᴰ xs ys → length (joined (λ (s : Str). s) xs) ≡ length (joined (λ (s : Str). s) ys)
unfolding joined
perm_joined Permᴰ.nil = refl
perm_joined (Permᴰ.cons {a} {b} {l₁ = xs} {l₂ = ys} e d) =
    omega (arith, length-append a (joined (λ (s : Str). s) xs), length-append b (joined (λ (s : Str). s) ys), ap length e, perm_joined d)
perm_joined (Permᴰ.swap {a} {b} {a'} {b'} {l} e f) =
    omega (
      arith,
      length-append a (b ++ joined (λ (s : Str). s) l),
      length-append b (joined (λ (s : Str). s) l),
      length-append a' (b' ++ joined (λ (s : Str). s) l),
      length-append b' (joined (λ (s : Str). s) l),
      ap length e,
      ap length f,
    )
perm_joined (Permᴰ.trans d e) = perm_joined d ∙ perm_joined e
