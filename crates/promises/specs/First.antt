-- The first of a list that passes a test, and its number from 0.
use Rattle.std.specs.Prelude.{ℕ, zero, suc, ◌≡◌, Bool, true, false, List, ◌∷◌}

pub data First {A : Type 0} (f : A → Bool) : ℕ → List A → Type 0 where
  here : {x : A} {l : List A} → f x ≡ true → First f zero (x ∷ l)
  later : {n : ℕ} {x : A} {l : List A} → f x ≡ false → First f n l → First f (suc n) (x ∷ l)
