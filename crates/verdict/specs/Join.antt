-- Joined paths: when two paths fit, and the path that has what both have.
use Rattle.std.specs.Prelude.{Bool, true, not, List, [], ◌∷◌, ◌++◌}
use Rattle.text.specs.Test.{◌and◌, any, only}
use Rattle.text.specs.String.{same}
use Rattle.path.specs.Path.{Key, Elem, Path}
use Rattle.verdict.specs.Cover.{definite, holds}

-- one name, two values
unfoldable pub conflict : Key → Key → Bool
conflict j k = same j.name k.name and not (same j.value k.value)

-- the keys give k's name another value
unfoldable pub clashes : List Key → Key → Bool
clashes ks k = any (λ (j : Key). conflict j k) ks

-- "names agree .., and no key is given two definite values"
unfoldable pub agrees : Elem → Elem → Bool
agrees r p = same r.name p.name and not (any (clashes (definite r)) (definite p))

-- "as far as both go"
unfoldable pub agree : Path → Path → Bool
agree [] ps = true
agree (r ∷ rs) [] = true
agree (r ∷ rs) (p ∷ ps) = agrees r p and agree rs ps

-- "the definite keys of both", each once
unfoldable pub meld : Elem → Elem → Elem
meld r p = record { name = r.name; keys = definite r ++ only (λ (k : Key). not (holds (definite r) k)) (definite p) }

-- "Its joined path has as many elements as the longer of the two, and the definite keys of both." (Keys with `*` in the longer one's last
-- elements stay there; they count as not given.)
unfoldable pub join : Path → Path → Path
join [] ps = ps
join (r ∷ rs) [] = r ∷ rs
join (r ∷ rs) (p ∷ ps) = meld r p ∷ join rs ps
