-- Two paths are compared in one of two ways: whether the first covers the second (true), or whether the two agree (false). The parts of both
-- comparisons, as the programs take them one by one.
use Rattle.std.specs.Prelude.{Bool, true, false, not, List}
use Rattle.text.specs.Test.{◌and◌, ◌or◌}
use Rattle.path.specs.Path.{Key, Elem, Path}
use Rattle.verdict.specs.Cover.{wild, given, same_key, holds, meets, covers}
use Rattle.verdict.specs.Join.{conflict, clashes, agrees, agree}

-- j is the key k, or is definite and in conflict with k
abbrev pub answers : Bool → Key → Key → Bool
answers true j k = same_key j k
answers false j k = not (wild j) and conflict j k

-- the definite ones of rs hold k, or those of ps do, or do not clash with it
abbrev pub key_passes : Bool → List Key → List Key → Key → Bool
key_passes true rs ps k = holds (given rs) k or holds (given ps) k
key_passes false rs ps k = holds (given rs) k or not (clashes (given ps) k)

abbrev pub elem_passes : Bool → Elem → Elem → Bool
elem_passes true = meets
elem_passes false = agrees

abbrev pub path_passes : Bool → Path → Path → Bool
path_passes true = covers
path_passes false = agree
