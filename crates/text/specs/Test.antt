-- Tests on values and on lists. `_and_`, `_or_` and `whether◌then◌else◌` are the library's `&&`, `||` and `cond`, kept shut: they
-- unfold only where a proof asks for it.
use Rattle.std.specs.Prelude.{Bool, true, false, List, [], ◌∷◌}
use mathlib.Core.List.{Memᴰ}
use Rattle.std.proofs.Math.Option.{Option, none, some}

infixr 35 ◌and◌
infixr 30 ◌or◌
infix 20 whether◌then◌else◌
infix 40 ◌∈◌
unfoldable pub ◌and◌ : Bool → Bool → Bool
true and b = b
false and b = false

unfoldable pub ◌or◌ : Bool → Bool → Bool
true or b = true
false or b = b

unfoldable pub whether◌then◌else◌ : {A : Type 0} → Bool → A → A → A
whether true then x else y = x
whether false then x else y = y

-- x is a member of xs
abbrev pub ◌∈◌ : {A : Type 0} → A → List A → Type 0
x ∈ xs = Memᴰ x xs

module _ {A : Type 0} where
  unfoldable pub all : (A → Bool) → List A → Bool
  all f [] = true
  all f (x ∷ xs) = f x and all f xs

  unfoldable pub any : (A → Bool) → List A → Bool
  any f [] = false
  any f (x ∷ xs) = f x or any f xs

  -- the members that pass
  unfoldable pub only : (A → Bool) → List A → List A
  only f [] = []
  only f (x ∷ xs) = whether f x then x ∷ only f xs else only f xs

  -- two members are alike
  unfoldable pub twice : (A → A → Bool) → List A → Bool
  twice alike [] = false
  twice alike (x ∷ xs) = any (alike x) xs or twice alike xs

  -- there is nothing
  unfoldable pub absent : Option A → Bool
  absent none = true
  absent (some a) = false

  -- the list that is there; where there is nothing, the empty one
  unfoldable pub or_nothing : Option (List A) → List A
  or_nothing none = []
  or_nothing (some l) = l
