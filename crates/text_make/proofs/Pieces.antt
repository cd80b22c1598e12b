-- A text to which nothing was added.
use Prim.Native.Nat.{ℕ}
use mathlib.Core.Path.{◌≡◌, sym}
use mathlib.Core.List.{List, [], ◌++◌, append-nil}

pub nothing_added : (a : List ℕ) → a ≡ a ++ []
nothing_added a = sym (append-nil a)
