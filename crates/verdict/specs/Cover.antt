-- When a path matches a rule's path, and when it lies at or beneath another: one relation for both.
use Rattle.std.specs.Prelude.{Bool, true, false, not, List, [], ◌∷◌}
use Rattle.text.specs.Test.{◌and◌, all, any, only}
use Rattle.text.specs.String.{bytes, same}
use Rattle.path.specs.Path.{Key, Elem, Path}

-- "A value that is exactly `*` is a wildcard"
unfoldable pub wild : Key → Bool
wild k = same k.value (bytes "*")

-- "definite key .. (value other than `*`)"
abbrev pub given : List Key → List Key
given ks = only (λ (k : Key). not (wild k)) ks

-- what an element gives: "A request key with value `*` counts as not given.", "A key the rule leaves out is a wildcard"
unfoldable pub definite : Elem → List Key
definite e = given e.keys

abbrev pub same_key : Key → Key → Bool
same_key j k = same j.name k.name and same j.value k.value

-- k is one of the keys, "with that value"
unfoldable pub holds : List Key → Key → Bool
holds ks k = any (λ (j : Key). same_key j k) ks

-- "the names agree .., and each definite key of the rule .. is given in that element of the request with that value";
-- "and, in each of those, every key P gives, with P's value"
unfoldable pub meets : Elem → Elem → Bool
meets p d = same p.name d.name and all (holds (definite d)) (definite p)

-- of a rule's path and a request's: "it has no more elements than the request", and the request's elements meet the rule's one by one;
-- of P and D: "Path D lies at or beneath P when it has P's elements first", D's meeting P's
unfoldable pub covers : Path → Path → Bool
covers [] ds = true
covers (p ∷ ps) [] = false
covers (p ∷ ps) (d ∷ ds) = meets p d and covers ps ds
