-- Path bytes that were checked before, read by position: `..In` is what stands at a position, `..End` where it ends. Each reader is total:
-- past the end a byte is 0 and a string is cut short. Where the end lies within the bytes, they read, and as the format says (proofs/Reading).
use Rattle.std.specs.Prelude.{ℕ, zero, suc, ◌+◌, List, [], ◌∷◌, get_or}
use Rattle.text.specs.String.{Str}
use Rattle.text.specs.Frame.{part}
use Rattle.path.specs.Path.{Key, Elem, Path}

-- "S is one length byte, then that many bytes"
unfoldable pub str_end : List ℕ → ℕ → ℕ
str_end f at = at + 1 + get_or f at 0

unfoldable pub str_in : List ℕ → ℕ → Str
str_in f at = part f (at + 1) (str_end f at)

-- a key: "S name, S value"
abbrev pub key_end : List ℕ → ℕ → ℕ
key_end f at = str_end f (str_end f at)

unfoldable pub key_in : List ℕ → ℕ → Key
key_in f at = record { name = str_in f at; value = str_in f (str_end f at) }

-- k keys
unfoldable pub keys_end : ℕ → List ℕ → ℕ → ℕ
keys_end zero f at = at
keys_end (suc k) f at = keys_end k f (key_end f at)

unfoldable pub keys_in : ℕ → List ℕ → ℕ → List Key
keys_in zero f at = []
keys_in (suc k) f at = key_in f at ∷ keys_in k f (key_end f at)

-- an element: "S name, a count of keys, and for each key .."
abbrev pub key_count : List ℕ → ℕ → ℕ
key_count f at = get_or f (str_end f at) 0

unfoldable pub elem_end : List ℕ → ℕ → ℕ
elem_end f at = keys_end (key_count f at) f (str_end f at + 1)

unfoldable pub elem_in : List ℕ → ℕ → Elem
elem_in f at = record { name = str_in f at; keys = keys_in (key_count f at) f (str_end f at + 1) }

-- n elements
unfoldable pub elems_end : ℕ → List ℕ → ℕ → ℕ
elems_end zero f at = at
elems_end (suc n) f at = elems_end n f (elem_end f at)

unfoldable pub elems_in : ℕ → List ℕ → ℕ → Path
elems_in zero f at = []
elems_in (suc n) f at = elem_in f at ∷ elems_in n f (elem_end f at)

-- a path: "a count of elements, then for each: .."
abbrev pub path_end : List ℕ → ℕ → ℕ
path_end f at = elems_end (get_or f at 0) f (at + 1)

abbrev pub path_in : List ℕ → ℕ → Path
path_in f at = elems_in (get_or f at 0) f (at + 1)
