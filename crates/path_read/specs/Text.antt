-- Path text.
use Rattle.std.specs.Prelude.{ℕ, Bool, ◌||◌, [], ◌∷◌, ◌++◌, eqb}
use Rattle.text.specs.Test.{whether◌then◌else◌}
use Rattle.text.specs.String.{Str, bytes, joined}
use Rattle.path.specs.Path.{Key, Elem, Path}

-- ] and \
abbrev pub is_mark : ℕ → Bool
is_mark b = eqb b 93 || eqb b 92

-- "In a value ] and \ are preceded by \, and nothing else is"
unfoldable pub escaped : ℕ → Str
escaped b = whether is_mark b then 92 ∷ b ∷ [] else b ∷ []

-- "[key=value]"
unfoldable pub key_text : Key → Str
key_text k = bytes "[" ++ (k.name ++ (bytes "=" ++ (joined escaped k.value ++ bytes "]")))

-- "each element is /, its name, then [key=value] for each key in order"
unfoldable pub elem_text : Elem → Str
elem_text e = bytes "/" ++ (e.name ++ joined key_text e.keys)

-- "The root is /."
unfoldable pub path_text : Path → Str
path_text [] = bytes "/"
path_text (e ∷ es) = joined elem_text (e ∷ es)
