-- Path bytes: how a path is read from a frame, and the bytes that stand for it.
use Rattle.std.specs.Prelude.{List, ◌∷◌, ◌++◌, length}
use Rattle.text.specs.String.{Str, joined}
use Rattle.text.specs.Frame.{Reader, ◌>>=◌, ret, byte, string, string_bytes, times}
use Rattle.path.specs.Path.{Key, Elem, Path}

-- ---- reading

-- "S name, S value"
unfoldable pub key : Reader Key
key = do
  name ← string
  value ← string
  ret (record { name = name; value = value })

-- "S name, a count of keys, and for each key .."
unfoldable pub element : Reader Elem
element = do
  name ← string
  count ← byte
  keys ← times count key
  ret (record { name = name; keys = keys })

-- "A path is a count of elements, then for each: .."
unfoldable pub path : Reader Path
path = do
  count ← byte
  times count element

-- ---- writing

-- a count, then each
unfoldable pub counted : {A : Type 0} → (A → Str) → List A → Str
counted w xs = length xs ∷ joined w xs

unfoldable pub key_bytes : Key → Str
key_bytes k = string_bytes k.name ++ string_bytes k.value

unfoldable pub elem_bytes : Elem → Str
elem_bytes e = string_bytes e.name ++ counted key_bytes e.keys

unfoldable pub path_bytes : Path → Str
path_bytes p = counted elem_bytes p
