-- What the tests of specs/Test and specs/String decide, each as the fact that it stands for.
use Rattle.std.proofs.Common.{◌≡◌, ℕ, Bool, true, false, ◌&&◌, ◌||◌, ◌⊎◌, List, [], ◌∷◌, sym, refl, ap, ◌∙◌, subst, ap₂, inl, inr, arith, eq-eqb, eqb-true}
use mathlib.Core.List.Memᴰ
use Rattle.text.specs.Test.{◌and◌, ◌or◌, whether◌then◌else◌, ◌∈◌, all, any, only}
use Rattle.text.specs.String.{Str, same}

-- ---- Bool

-- two values at once prove anything
pub clash {ℓ} : {X : Type ℓ} {b : Bool} → b ≡ true → b ≡ false → X
clash p q = let z : ◌≡◌ {A = ℕ} 0 1 = cc in absurd (omega arith)

pub by {ℓ} : {X : Type ℓ} (b : Bool) → (b ≡ true → X) → (b ≡ false → X) → X
by true f g = f refl
by false f g = g refl

pub bool_ext : (a b : Bool) → (a ≡ true → b ≡ true) → (b ≡ true → a ≡ true) → a ≡ b
bool_ext true b f g = sym (f refl)
bool_ext false true f g = g refl
bool_ext false false f g = refl

pub and_l : (a b : Bool) → (a and b) ≡ true → a ≡ true
unfolding ◌and◌
and_l true b e = refl
and_l false b e = e

pub and_r : (a b : Bool) → (a and b) ≡ true → b ≡ true
unfolding ◌and◌
and_r true b e = e
and_r false b e = clash e refl

pub both : (a b : Bool) → a ≡ true → b ≡ true → (a and b) ≡ true
unfolding ◌and◌
both a b p q = rw (p, q)

pub and_false : (a b : Bool) → a ≡ true → (a and b) ≡ false → b ≡ false
unfolding ◌and◌
and_false a b e h = rw e at h

pub and_first : (a b : Bool) → a ≡ false → (a and b) ≡ false
unfolding ◌and◌
and_first a b e = rw e

pub and_second : (a b : Bool) → b ≡ false → (a and b) ≡ false
unfolding ◌and◌
and_second true b e = e
and_second false b e = refl

pub or_l : (a b : Bool) → a ≡ true → (a or b) ≡ true
unfolding ◌or◌
or_l a b e = rw e

pub or_r : (a b : Bool) → b ≡ true → (a or b) ≡ true
unfolding ◌or◌
or_r true b e = refl
or_r false b e = e

pub or_cases : (a b : Bool) → (a or b) ≡ true → (a ≡ true) ⊎ (b ≡ true)
unfolding ◌or◌
or_cases true b e = inl refl
or_cases false b e = inr e

pub or_false_l : (a b : Bool) → (a or b) ≡ false → a ≡ false
unfolding ◌or◌
or_false_l true b e = e
or_false_l false b e = refl

pub or_false_r : (a b : Bool) → (a or b) ≡ false → b ≡ false
unfolding ◌or◌
or_false_r true b e = clash refl e
or_false_r false b e = e

pub neither : (a b : Bool) → a ≡ false → b ≡ false → (a or b) ≡ false
unfolding ◌or◌
neither a b p q = rw (p, q)

pub or_assoc : (a b c : Bool) → ((a or b) or c) ≡ (a or (b or c))
unfolding ◌or◌
or_assoc true b c = refl
or_assoc false b c = refl

pub or_none_lem : (a : Bool) → (a or false) ≡ a
unfolding ◌or◌
or_none_lem true = refl
or_none_lem false = refl

pub none_or : (a : Bool) → (false or a) ≡ a
unfolding ◌or◌
none_or a = refl

pub or_swap : (p q r t : Bool) → ((p or q) or (r or t)) ≡ ((p or r) or (q or t))
unfolding ◌or◌
or_swap true q r t = refl
or_swap false true true t = refl
or_swap false true false t = refl
or_swap false false r t = refl

-- the library's `||` and `&&`, which byte tests and programs use
pub or_is : (a b : Bool) → (a || b) ≡ (a or b)
unfolding ◌or◌
or_is true b = refl
or_is false b = refl

pub or_join : (a b c : Bool) → (a or (b or c)) ≡ ((a || b) or c)
unfolding ◌or◌
or_join true b c = refl
or_join false b c = refl

pub and_join : (a b c : Bool) → (a and (b and c)) ≡ ((a && b) and c)
unfolding ◌and◌
and_join true b c = refl
and_join false b c = refl

pub and_left : (s t : Bool) → (s && t) ≡ true → s ≡ true
and_left true t e = refl
and_left false t e = e

pub and_right : (s t : Bool) → (s && t) ≡ true → t ≡ true
and_right true t e = e
and_right false t e = clash e refl

-- `search ands` takes a part out of a conjunction
pub ruleset ands = (and_l, and_r)

-- ---- strings

pub same→≡ : (xs ys : Str) → same xs ys ≡ true → xs ≡ ys
unfolding same
same→≡ [] [] e = refl
same→≡ [] (y ∷ ys) e = clash e refl
same→≡ (x ∷ xs) [] e = clash e refl
same→≡ (x ∷ xs) (y ∷ ys) e = ap₂ ◌∷◌ (eqb-true x y (search ands)) (same→≡ xs ys (search ands))

pub same_refl : (xs : Str) → same xs xs ≡ true
unfolding same
same_refl [] = refl
same_refl (x ∷ xs) = both _ _ (eq-eqb x x refl) (same_refl xs)

pub ≡→same : {xs ys : Str} → xs ≡ ys → same xs ys ≡ true
≡→same {xs} e = rw (← e) (same_refl xs)

pub same_sym : (a b : Str) → same a b ≡ same b a
same_sym a b = bool_ext _ _ (λ e. ≡→same (sym (same→≡ a b e))) (λ e. ≡→same (sym (same→≡ b a e)))

-- ---- lists

module _ {A : Type 0} where
  pub any_or : (f g : A → Bool) (l : List A) → any (λ y. f y or g y) l ≡ (any f l or any g l)
  unfolding any ◌or◌
  any_or f g [] = refl
  any_or f g (x ∷ l) = ap (λ (t : Bool). (f x or g x) or t) (any_or f g l) ∙ or_swap (f x) (g x) (any f l) (any g l)

  -- what holds of the first and of the others holds of all
  pub on_cons : (P : A → Type 0) {x : A} {xs : List A} → P x → ((y : A) → y ∈ xs → P y) → (y : A) → y ∈ x ∷ xs → P y
  on_cons P p h y (Memᴰ.head e) = subst P (sym e) p
  on_cons P p h y (Memᴰ.tail m) = h y m

  pub all→ : (f : A → Bool) (xs : List A) → all f xs ≡ true → (x : A) → x ∈ xs → f x ≡ true
  unfolding all
  all→ f [] e = λ x m. absurd (Memᴰ.not-nil m)
  all→ f (y ∷ ys) e = on_cons _ (and_l _ _ e) (all→ f ys (and_r _ _ e))

  pub →all : (f : A → Bool) (xs : List A) → ((x : A) → x ∈ xs → f x ≡ true) → all f xs ≡ true
  unfolding all
  →all f [] h = refl
  →all f (x ∷ xs) h = both _ _ (h x (Memᴰ.head refl)) (→all f xs (λ y m. h y (Memᴰ.tail m)))

  pub any→ : (f : A → Bool) (xs : List A) → any f xs ≡ true → (x : A) × (x ∈ xs) × (f x ≡ true)
  unfolding any
  any→ f [] e = clash e refl
  any→ f (x ∷ xs) e = go (any→ f xs) (or_cases _ _ e)
    where
      go : (any f xs ≡ true → (y : A) × (y ∈ xs) × (f y ≡ true)) → (f x ≡ true) ⊎ (any f xs ≡ true) → (y : A) × (y ∈ x ∷ xs) × (f y ≡ true)
      go ih (inl p) = (x, Memᴰ.head refl, p)
      go ih (inr p) = let r = ih p in (r.0, Memᴰ.tail r.1, r.2)

  pub →any : (f : A → Bool) {x : A} {xs : List A} → x ∈ xs → f x ≡ true → any f xs ≡ true
  unfolding any
  →any f (Memᴰ.head p) e = or_l _ _ (ap f (sym p) ∙ e)
  →any f (Memᴰ.tail m) e = or_r _ _ (→any f m e)

  -- no member passes where none is known to
  pub none_any : (f : A → Bool) (xs : List A) → any f xs ≡ false → {x : A} → x ∈ xs → f x ≡ false
  none_any f xs e {x} m = by (f x) (λ p. clash (→any f m p) e) (λ p. p)

  pub only→ : (f : A → Bool) (xs : List A) {x : A} → x ∈ only f xs → (x ∈ xs) × (f x ≡ true)
  unfolding only whether◌then◌else◌
  only→ f [] m = absurd (Memᴰ.not-nil m)
  only→ f (y ∷ ys) {x} m = by (f y) (λ e. kept e (only→ f ys) (rw e at m)) (λ e. let r = only→ f ys (rw e at m) in (Memᴰ.tail r.0, r.1))
    where
      kept : f y ≡ true → (x ∈ only f ys → (x ∈ ys) × (f x ≡ true)) → x ∈ y ∷ only f ys → (x ∈ y ∷ ys) × (f x ≡ true)
      kept e ih (Memᴰ.head p) = (Memᴰ.head p, ap f p ∙ e)
      kept e ih (Memᴰ.tail m) = let r = ih m in (Memᴰ.tail r.0, r.1)

  pub →only : (f : A → Bool) {x : A} {xs : List A} → x ∈ xs → f x ≡ true → x ∈ only f xs
  unfolding only whether◌then◌else◌
  →only f (Memᴰ.head p) e = rw (ap f (sym p) ∙ e) (Memᴰ.head p)
  →only f (Memᴰ.tail {x = y} m) e = by (f y) (λ h. rw h (Memᴰ.tail (→only f m e))) (λ h. rw h (→only f m e))
