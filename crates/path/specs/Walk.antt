-- What the programs that walk over path bytes find, said of what is read there.
use Rattle.std.specs.Prelude.{ℕ, Bool, false, not, ◌||◌, List, length, eqb, ltb}
use Rattle.limits.specs.Limits.{max_string}
use Rattle.text.specs.Test.{◌and◌, ◌or◌, any, twice}
use Rattle.text.specs.Byte.{is_name}
use Rattle.text.specs.String.{Str, bytes, same}
use Rattle.text.specs.Frame.{Parsed, got, unread}
use Rattle.text.specs.Refusal.{◌when◌else◌, clear}
use Rattle.path.specs.Path.{Key, Elem, Path}
use Rattle.path.specs.Bytes.{path}
use Rattle.path.specs.Refusal.{unsized, key_over, elem_over, outside_name, outside_value, key_stray, elem_stray}
use Rattle.path.specs.Refusal.{starred, half_wild, key_misplaced, elem_misplaced, same_name, over_limit, stray_byte, misplaced, key_twice, good_path}

-- `unsized`, by the length
abbrev pub unsized_by : ℕ → Bool
unsized_by n = eqb n 0 || ltb max_string n

-- no byte of a name
abbrev pub no_name : ℕ → Bool
no_name b = not (is_name b)

-- the smallest of 5 to 8 that holds
unfoldable pub least_refusal : Bool → Bool → Bool → Bool → ℕ
least_refusal five six seven eight = 5 when five else 6 when six else 7 when seven else 8 when eight else clear

unfoldable pub path_refusal : Path → ℕ
path_refusal p = least_refusal (over_limit p) (stray_byte p) (misplaced p) (key_twice p)

-- the smallest number that each part of a path gets, or `clear`
unfoldable pub name_refusal : Str → ℕ
name_refusal s = least_refusal (unsized s) (any outside_name s) (starred s) false

unfoldable pub elem_name_refusal : Str → ℕ
elem_name_refusal s = least_refusal (unsized s) (any outside_name s) (starred s or same s (bytes "...")) false

unfoldable pub value_refusal : Str → ℕ
value_refusal s = least_refusal (unsized s) (any outside_value s) (half_wild s) false

-- `again`: a later key of the element has the name
unfoldable pub key_refusal : Str → Str → Bool → ℕ
key_refusal name value again =
    least_refusal (unsized name or unsized value) (any outside_name name or any outside_value value) (starred name or half_wild value) again

unfoldable pub keys_refusal : List Key → ℕ
keys_refusal ks = least_refusal (any key_over ks) (any key_stray ks) (any key_misplaced ks) (twice same_name ks)

unfoldable pub elem_refusal : Elem → ℕ
elem_refusal e = least_refusal (elem_over e) (elem_stray e) (elem_misplaced e) (twice same_name e.keys)

unfoldable pub elems_refusal : List Elem → ℕ
elems_refusal es = least_refusal (any elem_over es) (any elem_stray es) (any elem_misplaced es) (any (λ (e : Elem). twice same_name e.keys) es)

-- a key by itself
unfoldable pub alone_refusal : Key → ℕ
alone_refusal k = key_refusal k.name k.value false

-- a part that gets no number
abbrev pub good : {A : Type 0} → (A → ℕ) → A → Bool
good g a = eqb (g a) clear

-- b, or one of the keys has the name n; false where they do not read
unfoldable pub has_name : Bool → Str → Parsed (List Key) → Bool
has_name b n (got ks t) = b or any (λ (k : Key). same n k.name) ks
has_name b n unread = false

-- two of the keys have the same name; false where they do not read
unfoldable pub twice_in : Parsed (List Key) → Bool
twice_in (got ks t) = twice same_name ks
twice_in unread = false

-- the bytes are those of a good path, and nothing more
unfoldable pub is_path_in : List ℕ → Parsed Path → Bool
is_path_in f (got p t) = eqb t (length f) and good_path p
is_path_in f unread = false

unfoldable pub is_path : List ℕ → Bool
is_path f = is_path_in f (path f 0)
