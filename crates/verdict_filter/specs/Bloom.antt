-- A Bloom filter of a path: four numbers, each with a binary digit for each of its names and one for each of its definite keys, found by a
-- hash. Names and keys that the asked path has are left out. A path that covers the joined path of another and the asked one has no digit that
-- the other lacks (proofs/Laws), whatever the seed of the hash is. So most comparisons can be left out.
use Rattle.std.specs.Prelude.{ℕ, ◌+◌, ◌/◌, ◌%◌, ◌^◌, List, [], ◌∷◌}
use Rattle.std.specs.Int.Bits.{bit_or}
use Rattle.text.specs.Test.{◌or◌, whether◌then◌else◌}
use Rattle.path.specs.Path.{Key, Elem, Path}
use Rattle.verdict.specs.Cover.{wild, holds}
use Rattle.verdict_filter.specs.declared.Filter.{Filter}
use Rattle.text_hash.specs.declared.Seed.{Seed}
use Rattle.text_hash.specs.Mix.{mix}

-- ---- filters

unfoldable pub unite : Filter → Filter → Filter
unite x y = record { a = bit_or x.a y.a; b = bit_or x.b y.b; c = bit_or x.c y.c; d = bit_or x.d y.d }

abbrev pub none : Filter
none = record { a = 0; b = 0; c = 0; d = 0 }

-- in each number one digit of 64, by six bits of the hash
unfoldable pub digits : ℕ → Filter
digits h = record {
  a = 2 ^ (h / 2 ^ 26 % 64);
  b = 2 ^ (h / 2 ^ 20 % 64);
  c = 2 ^ (h / 2 ^ 14 % 64);
  d = 2 ^ (h / 2 ^ 8 % 64);
}

-- ---- paths: depth d is this many times the number of elements before

abbrev pub depth_step : ℕ
depth_step = 256

-- a key, unless it is a wildcard or among the asked ones
unfoldable pub key_digits : Seed → ℕ → List Key → Key → Filter
key_digits s d asked k = whether wild k or holds asked k then none else digits (mix s (mix s d k.name) k.value)

unfoldable pub keys_digits : Seed → ℕ → List Key → List Key → Filter
keys_digits s d asked [] = none
keys_digits s d asked (k ∷ ks) = unite (key_digits s d asked k) (keys_digits s d asked ks)

-- an element where nothing is asked
unfoldable pub elem_digits : Seed → ℕ → Elem → Filter
elem_digits s d e = unite (digits (mix s d e.name)) (keys_digits s d [] e.keys)

unfoldable pub path_digits : Seed → ℕ → Path → Filter
path_digits s d [] = none
path_digits s d (e ∷ es) = unite (elem_digits s d e) (path_digits s (d + depth_step) es)

-- what a path has beyond the asked one
unfoldable pub beyond : Seed → ℕ → Path → Path → Filter
beyond s d [] ps = none
beyond s d (e ∷ es) [] = path_digits s d (e ∷ es)
beyond s d (e ∷ es) (p ∷ ps) = unite (keys_digits s d p.keys e.keys) (beyond s (d + depth_step) es ps)
