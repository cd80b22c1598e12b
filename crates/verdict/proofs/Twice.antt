-- Lists in which no two members are alike.
use mathlib.Core.Path.{◌≡◌, refl, sym, ap, ◌∙◌}
use mathlib.Core.Logic.{◌⊎◌, inl, inr}
use mathlib.Core.Bool.{Bool, true, false}
use mathlib.Core.List.Memᴰ
use mathlib.Core.List.{List, [], ◌∷◌, ◌++◌}
use Rattle.text.specs.Test.{◌or◌, whether◌then◌else◌, ◌∈◌, any, only, twice}
use Rattle.text.proofs.Tests.{clash, by, or_false_l, or_false_r, neither, any→, none_any, only→}

module _ {A : Type 0} where
  -- where no member passes, none is found
  pub →none : (f : A → Bool) (xs : List A) → ((x : A) → x ∈ xs → f x ≡ false) → any f xs ≡ false
  →none f xs h = by (any f xs) (λ e. let r = any→ f xs e in clash r.2 (h r.0 r.1)) (λ e. e)

  module _ (alike : A → A → Bool) where
    pub first_alone : (x : A) (xs : List A) → twice alike (x ∷ xs) ≡ false → {y : A} → y ∈ xs → alike x y ≡ false
    unfolding twice
    first_alone x xs d m = none_any (alike x) xs (or_false_l (any (alike x) xs) (twice alike xs) d) m

    pub rest_alone : (x : A) (xs : List A) → twice alike (x ∷ xs) ≡ false → twice alike xs ≡ false
    unfolding twice
    rest_alone x xs d = or_false_r (any (alike x) xs) (twice alike xs) d

    pub →alone : (x : A) (xs : List A) → ((y : A) → y ∈ xs → alike x y ≡ false) → twice alike xs ≡ false → twice alike (x ∷ xs) ≡ false
    unfolding twice
    →alone x xs h d = neither (any (alike x) xs) (twice alike xs) (→none (alike x) xs h) d

    pub twice_only : (g : A → Bool) (xs : List A) → twice alike xs ≡ false → twice alike (only g xs) ≡ false
    unfolding only whether◌then◌else◌
    twice_only g [] d = d
    twice_only g (x ∷ xs) d =
        let ih = twice_only g xs (rest_alone x xs d) in
        by (g x) (λ e. rw e (→alone x (only g xs) (λ y m. first_alone x xs d (only→ g xs m).0) ih)) (λ e. rw e ih)

    pub twice_append : (xs ys : List A) → twice alike xs ≡ false → twice alike ys ≡ false
        → ((x : A) → x ∈ xs → (y : A) → y ∈ ys → alike x y ≡ false) → twice alike (xs ++ ys) ≡ false
    twice_append [] ys d e h = e
    twice_append (x ∷ xs) ys d e h =
        →alone x (xs ++ ys) (λ y m. apart y (Memᴰ.append_cases xs m)) (twice_append xs ys (rest_alone x xs d) e (λ a m. h a (Memᴰ.tail m)))
      where
        apart : (y : A) → (y ∈ xs) ⊎ (y ∈ ys) → alike x y ≡ false
        apart y (inl m) = first_alone x xs d m
        apart y (inr n) = h x (Memᴰ.head refl) y n

    module _ (turned : (x y : A) → alike x y ≡ true → alike y x ≡ true) where
      -- two members that are alike are one
      pub twice→ : (xs : List A) {x y : A} → twice alike xs ≡ false → x ∈ xs → y ∈ xs → alike x y ≡ true → x ≡ y
      twice→ [] {x = x} {y = y} d m _ e = elim m [ ]
      twice→ (z ∷ zs) d (Memᴰ.head p) (Memᴰ.head q) e = p ∙ sym q
      twice→ (z ∷ zs) {x} {y} d (Memᴰ.head p) (Memᴰ.tail n) e = clash (ap (λ (w : A). alike w y) (sym p) ∙ e) (first_alone z zs d n)
      twice→ (z ∷ zs) {x} {y} d (Memᴰ.tail m) (Memᴰ.head q) e = clash (ap (λ (w : A). alike w x) (sym q) ∙ turned x y e) (first_alone z zs d m)
      twice→ (z ∷ zs) d (Memᴰ.tail m) (Memᴰ.tail n) e = twice→ zs (rest_alone z zs d) m n e
