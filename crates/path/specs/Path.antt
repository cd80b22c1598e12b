-- A path: elements, each with its keys.
use Rattle.std.specs.Prelude.{List}
use Rattle.text.specs.String.{Str}

-- a key of an element; the value `*` is a wildcard
pub record Key : Type 0 where
  pub name : Str
  pub value : Str

-- an element, with its keys in order
pub record Elem : Type 0 where
  pub name : Str
  pub keys : List Key

-- "No elements means the root."
abbrev pub Path : Type 0
Path = List Elem
