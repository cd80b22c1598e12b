-- Strings: lists of bytes, when two are the same, and their order.
use Rattle.std.specs.Prelude.{ℕ, Bool, true, false, List, [], ◌∷◌, ◌++◌, nat_eq, nat_lt}
use Prim.Native.Char.{code}
use Prim.Native.String.{String, [] as []ˢ, ◌∷◌ as ◌∷ˢ◌}
use Rattle.text.specs.Test.{◌and◌, ◌or◌}

abbrev pub Str : Type 0
Str = List ℕ

-- the bytes of a quoted text
abbrev pub bytes : String → Str
bytes []ˢ = []
bytes (c ∷ˢ s) = code c ∷ bytes s

-- what f gives for each, one after another
unfoldable pub joined : {A : Type 0} → (A → Str) → List A → Str
joined f [] = []
joined f (x ∷ xs) = f x ++ joined f xs

-- "Strings are compared byte by byte."
unfoldable pub same : Str → Str → Bool
same [] [] = true
same [] (y ∷ ys) = false
same (x ∷ xs) [] = false
same (x ∷ xs) (y ∷ ys) = nat_eq x y and same xs ys

-- a is more than b; or they are equal, and `tie` decides
unfoldable pub more : ℕ → ℕ → Bool → Bool
more a b tie = nat_lt b a or nat_eq a b and tie

-- "byte order, where a proper prefix is smaller"
unfoldable pub before : Str → Str → Bool
before [] [] = false
before [] (y ∷ ys) = true
before (x ∷ xs) [] = false
before (x ∷ xs) (y ∷ ys) = more y x (before xs ys)
