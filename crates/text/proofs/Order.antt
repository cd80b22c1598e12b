-- `more`, one step of a comparison, and byte order: it is total, and tells two strings apart unless they are the same.
use Rattle.std.proofs.Common.{◌≡◌, ℕ, ◌<◌, Bool, true, false, eqb, ltb, ◌⊎◌, [], ◌∷◌, sym, refl, ◌∙◌, ap₂, inl, inr, arith, ltb-true, le-ltb, lt-ltb, eq-eqb, ne_eqb, eqb-true}
use native.Mathlib.Decide.{dec_lt}
use Rattle.text.specs.Test.{◌and◌, ◌or◌}
use Rattle.text.specs.String.{Str, more, before}
use Rattle.text.proofs.Tests.{clash, by, ands, both, or_l, or_r, or_cases, or_none_lem}

-- ---- `more`

more_true : (a b : ℕ) (p : Bool) → more a b p ≡ true → (b < a) ⊎ ((a ≡ b) × (p ≡ true))
unfolding more
more_true a b p e = go (or_cases _ _ e)
  where
    go : (ltb b a ≡ true) ⊎ ((eqb a b and p) ≡ true) → (b < a) ⊎ ((a ≡ b) × (p ≡ true))
    go (inl h) = inl (ltb-true b a h)
    go (inr h) = inr (eqb-true a b (search ands), search ands)

-- not more: less, or a tie that fails
pub more_less : (a b : ℕ) (p : Bool) → a < b → more a b p ≡ false
unfolding more ◌or◌ ◌and◌
more_less a b p h = rw (le-ltb b a (omega arith), ne_eqb a b (omega arith))

more_tie : (a b : ℕ) (p : Bool) → a ≡ b → p ≡ false → more a b p ≡ false
unfolding more ◌or◌ ◌and◌
more_tie a b p h e = rw (le-ltb b a (omega arith), eq-eqb a b h) e

more_false : (a b : ℕ) (p : Bool) → more a b p ≡ false → (a < b) ⊎ ((a ≡ b) × (p ≡ false))
unfolding more
more_false a b p e = go (dec_lt a b) (dec_lt b a)
  where
    go : Dec (a < b) → Dec (b < a) → (a < b) ⊎ ((a ≡ b) × (p ≡ false))
    go (yes h) d = inl h
    go (no h) (yes k) = clash (or_l _ _ (lt-ltb b a k)) e
    go (no h) (no k) = let s : a ≡ b = omega arith in inr (s, by p (λ x. clash (or_r _ _ (both _ _ (eq-eqb a b s) x)) e) (λ x. x))

-- One step of each law of an order, from the law of what decides a tie.
pub asym : (a b : ℕ) (p p' : Bool) → (p ≡ true → p' ≡ false) → more a b p ≡ true → more b a p' ≡ false
asym a b p p' h e = go (more_true a b p e)
  where
    go : (b < a) ⊎ ((a ≡ b) × (p ≡ true)) → more b a p' ≡ false
    go (inl k) = more_less b a p' k
    go (inr k) = more_tie b a p' (sym k.0) (h k.1)

pub chain : (a b c : ℕ) (p q w : Bool) → (p ≡ false → q ≡ false → w ≡ false) → more a b p ≡ false → more b c q ≡ false → more a c w ≡ false
chain a b c p q w h x y = go (more_false a b p x) (more_false b c q y)
  where
    go : (a < b) ⊎ ((a ≡ b) × (p ≡ false)) → (b < c) ⊎ ((b ≡ c) × (q ≡ false)) → more a c w ≡ false
    go (inl k) (inl l) = more_less a c w (omega arith)
    go (inl k) (inr l) = more_less a c w (omega arith)
    go (inr k) (inl l) = more_less a c w (omega arith)
    go (inr k) (inr l) = more_tie a c w (k.0 ∙ l.0) (h k.1 l.1)

pub tied : (a b : ℕ) (p p' : Bool) → more a b p ≡ false → more b a p' ≡ false → (a ≡ b) × (p ≡ false) × (p' ≡ false)
tied a b p p' x y = go (more_false a b p x) (more_false b a p' y)
  where
    go : (a < b) ⊎ ((a ≡ b) × (p ≡ false)) → (b < a) ⊎ ((b ≡ a) × (p' ≡ false)) → (a ≡ b) × (p ≡ false) × (p' ≡ false)
    go (inl k) (inl l) = absurd (omega arith)
    go (inl k) (inr l) = absurd (omega arith)
    go (inr k) (inl l) = absurd (omega arith)
    go (inr k) (inr l) = (k.0, k.1, l.1)

-- ---- byte order

pub before_asym : (xs ys : Str) → before xs ys ≡ true → before ys xs ≡ false
unfolding before
before_asym [] [] e = clash e refl
before_asym [] (y ∷ ys) e = refl
before_asym (x ∷ xs) [] e = clash e refl
before_asym (x ∷ xs) (y ∷ ys) e = asym y x _ _ (before_asym xs ys) e

pub before_chain : (xs ys zs : Str) → before xs ys ≡ false → before ys zs ≡ false → before xs zs ≡ false
unfolding before
before_chain [] [] [] e f = refl
before_chain [] [] (z ∷ zs) e f = f
before_chain [] (y ∷ ys) [] e f = refl
before_chain [] (y ∷ ys) (z ∷ zs) e f = clash refl e
before_chain (x ∷ xs) [] [] e f = refl
before_chain (x ∷ xs) [] (z ∷ zs) e f = clash refl f
before_chain (x ∷ xs) (y ∷ ys) [] e f = refl
before_chain (x ∷ xs) (y ∷ ys) (z ∷ zs) e f = chain z y x _ _ _ (λ p q. before_chain xs ys zs q p) f e

pub before_tied : (xs ys : Str) → before xs ys ≡ false → before ys xs ≡ false → xs ≡ ys
unfolding before
before_tied [] [] e f = refl
before_tied [] (y ∷ ys) e f = clash refl e
before_tied (x ∷ xs) [] e f = clash refl f
before_tied (x ∷ xs) (y ∷ ys) e f = let r = tied y x _ _ e f in ap₂ ◌∷◌ (sym r.0) (before_tied xs ys r.1 r.2)

-- byte order goes on from one string to the next
pub before_trans : (xs ys zs : Str) → before xs ys ≡ true → before ys zs ≡ true → before xs zs ≡ true
before_trans xs ys zs e f = by (before xs zs) (λ t. t) (λ t. clash f (before_chain ys xs zs (before_asym xs ys e) t))

pub before_self : (xs : Str) → before xs xs ≡ false
before_self xs = by (before xs xs) (λ t. before_asym xs xs t) (λ t. t)

-- ---- a comparison that is settled

pub more_same : (a b : ℕ) (tie : Bool) → a ≡ b → more a b tie ≡ tie
unfolding more ◌or◌ ◌and◌
more_same a b tie e = rw (le-ltb b a (omega arith), eq-eqb a b e)

pub more_other : (a b : ℕ) (tie : Bool) → (a ≡ b → ⊥) → more a b tie ≡ ltb b a
unfolding more ◌and◌
more_other a b tie n = rw (ne_eqb a b n) (or_none_lem _)
