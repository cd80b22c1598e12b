-- What stands at the places that programs go by.
use Rattle.std.specs.Prelude.{◌≡◌, ◌<◌, ◌∷◌, [], List, Option, Some, None}
use Rattle.path.specs.Path.{Key, Elem, Path}
use Rattle.table_place.specs.Place.{key_in, keys_in, elem_in, elems_in}
use Rattle.verdict_compare.specs.declared.place.Key as placed
use Rattle.verdict_compare.specs.declared.place.Keys.{Keys}
use Rattle.verdict_compare.specs.declared.place.Element.{Element}
use Rattle.verdict_compare.specs.declared.place.Elements.{Elements}

abbrev pub key : placed.Key → Key
key k = key_in k.bytes.now k.at

abbrev pub keys : Keys → List Key
keys k = keys_in k.count k.bytes.now k.at

abbrev pub element : Element → Elem
element e = elem_in e.bytes.now e.at

abbrev pub elements : Elements → Path
elements p = elems_in p.count p.bytes.now p.at

-- the first element, where there is one
unfoldable pub First : Elements → Option Element → Type 0
First p None = elements p ≡ []
First p (Some e) = (0 < p.count) × (element e ≡ elem_in p.bytes.now p.at)

-- the elements after the first, of which there are fewer
unfoldable pub Rest : Elements → Elements → Type 0
Rest p r = (r.count < p.count) × (elements p ≡ elem_in p.bytes.now p.at ∷ elements r)
