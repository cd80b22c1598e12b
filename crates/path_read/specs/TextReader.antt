-- Reading path text. This is no part of what has to be believed: it is proved to answer exactly the good path whose text it is given
-- (proofs/RoundTrip). The bytes that it looks for are / (47), = (61), [ (91), \ (92) and ] (93).
use Rattle.std.specs.Prelude.{ℕ, zero, suc, ◌+◌, Bool, ◌||◌, List, [], ◌∷◌, length, drop, get_or, eqb, ltb}
use Rattle.std.proofs.Math.Option.{Option, none, some}
use Rattle.limits.specs.Limits.{max_elements, max_keys, max_string}
use Rattle.text.specs.Test.{whether◌then◌else◌}
use Rattle.text.specs.String.{Str, bytes, same}
use Rattle.text.specs.Frame.{got, unread, Reader, ◌>>=◌, ret, part}
use Rattle.text_search.specs.Search.{until}
use Rattle.path.specs.Path.{Key, Elem, Path}
use Rattle.path.specs.Spells.{whole}
use Rattle.path_read.specs.Text.{is_mark}

-- the byte b, which is not 0 (past the end `get_or` gives 0)
unfoldable pub literal : ℕ → Reader ℕ
literal b s at = whether eqb (get_or s at 0) b then got b (at + 1) else unread

abbrev pub is_either : ℕ → ℕ → ℕ → Bool
is_either a b x = eqb x a || eqb x b

-- how many bytes stand before the first that is a or b
abbrev pub up_to : ℕ → ℕ → Str → ℕ
up_to a b s = until (is_either a b) s

-- the bytes before the first that is a or b, as many as a string may have
unfoldable pub name : ℕ → ℕ → Reader Str
name a b s at =
    whether ltb max_string (up_to a b (drop at s)) then unread else got (part s at (at + up_to a b (drop at s))) (at + up_to a b (drop at s))

-- the next byte of a value: one that stands plain, or a \ and then a mark
unfoldable pub item : Reader ℕ
item s at =
    whether ltb at (length s) then
    (whether eqb (get_or s at 0) 92 then
    (whether is_mark (get_or s (at + 1) 0) then got (get_or s (at + 1) 0) (at + 2) else unread)
    else got (get_or s at 0) (at + 1))
    else unread

-- a value of at most n bytes, and its ]
unfoldable pub value : ℕ → Reader Str
value zero s at = whether eqb (get_or s at 0) 93 then got [] (at + 1) else unread
value (suc n) s at =
    whether eqb (get_or s at 0) 93 then got [] (at + 1)
    else (do
      b ← item
      v ← value n
      ret (b ∷ v)) s at

-- at most n things, each after the byte b
unfoldable pub each : {A : Type 0} → ℕ → ℕ → Reader A → Reader (List A)
each b zero r s at = got [] at
each b (suc n) r s at =
    whether eqb (get_or s at 0) b then (do
      x ← r
      xs ← each b n r
      ret (x ∷ xs)) s (at + 1)
    else got [] at

-- name=value]
unfoldable pub key : Reader Key
key = do
  n ← name 61 61
  e ← literal 61
  v ← value max_string
  ret (record { name = n; value = v })

-- the name, and each key after its [
unfoldable pub element : Reader Elem
element = do
  n ← name 47 91
  ks ← each 91 max_keys key
  ret (record { name = n; keys = ks })

-- each element after its /
unfoldable pub elements : Reader Path
elements = each 47 max_elements element

-- the good path whose text this is
unfoldable pub read_text : Str → Option Path
read_text s =
    whether same s (bytes "/") then some []
    else whether eqb (length s) 0 then none
    else whole s (elements s 0)
