-- Clues: strings by which the rules are found that can cover a path. A rule has one of its clues in the index; a path has every clue of each rule that
-- covers it (proofs/Clues).
use Rattle.std.specs.Prelude.{List, [], ◌∷◌, ◌++◌}
use Rattle.text.specs.String.{Str}
use Rattle.path.specs.Path.{Key, Path}
use Rattle.verdict.specs.Cover.{definite}

unfoldable pub values_of : List Key → List Str
values_of [] = []
values_of (k ∷ ks) = k.value ∷ values_of ks

-- the values of the definite keys
unfoldable pub values_given : Path → List Str
values_given [] = []
values_given (e ∷ es) = values_of (definite e) ++ values_given es

-- those of all keys
unfoldable pub values : Path → List Str
values [] = []
values (e ∷ es) = values_of e.keys ++ values es

-- a rule's: its first name, and the value of each definite key; of no elements the empty string
unfoldable pub rule_clues : Path → List Str
rule_clues [] = [] ∷ []
rule_clues (e ∷ es) = e.name ∷ values_given (e ∷ es)

-- a path's: the empty string, its first name, and the value of each key
unfoldable pub path_clues : Path → List Str
path_clues [] = [] ∷ []
path_clues (e ∷ es) = [] ∷ e.name ∷ values (e ∷ es)
