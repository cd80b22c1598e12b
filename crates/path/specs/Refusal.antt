-- What a path may not hold: a predicate for each of the refusal numbers 5 to 8.
use Rattle.std.specs.Prelude.{ℕ, Bool, ◌||◌, not, length, ltb, eqb}
use Rattle.limits.specs.Limits.{max_elements, max_keys, max_string}
use Rattle.text.specs.Test.{◌and◌, ◌or◌, any, twice}
use Rattle.text.specs.Byte.{is_name, is_print, is_star}
use Rattle.text.specs.String.{Str, bytes, same}
use Rattle.path.specs.Path.{Key, Elem, Path}

-- ---- 5: "a limit passed, or an empty string that may not be"

-- "other strings 64; only origin may be empty"
unfoldable pub unsized : Str → Bool
unsized s = eqb (length s) 0 or ltb max_string (length s)

unfoldable pub key_over : Key → Bool
key_over k = unsized k.name or unsized k.value

-- "4 keys an element"
unfoldable pub elem_over : Elem → Bool
elem_over e = unsized e.name or ltb max_keys (length e.keys) or any key_over e.keys

-- "16 elements"
unfoldable pub over_limit : Path → Bool
over_limit p = ltb max_elements (length p) or any elem_over p

-- ---- 6: "a byte outside its set (an * in an element or key name is 7)"

-- "Element and key names use letters, digits and `-◌.:`"; `*` has a number of its own
unfoldable pub outside_name : ℕ → Bool
outside_name b = not (is_name b || is_star b)

-- "other strings use bytes 0x20 to 0x7E"
unfoldable pub outside_value : ℕ → Bool
outside_value b = not (is_print b)

unfoldable pub key_stray : Key → Bool
key_stray k = any outside_name k.name or any outside_value k.value

unfoldable pub elem_stray : Elem → Bool
elem_stray e = any outside_name e.name or any key_stray e.keys

unfoldable pub stray_byte : Path → Bool
stray_byte p = any elem_stray p

-- ---- 7: "wildcard misplaced, or `...`"

-- it holds a `*`
abbrev pub starred : Str → Bool
starred s = any is_star s

-- "A value that is exactly `*` is a wildcard; any other value holds no `*`."
unfoldable pub half_wild : Str → Bool
half_wild s = starred s and not (same s (bytes "*"))

unfoldable pub key_misplaced : Key → Bool
key_misplaced k = starred k.name or half_wild k.value

-- "An element named `...` is refused."
unfoldable pub elem_misplaced : Elem → Bool
elem_misplaced e = (starred e.name or same e.name (bytes "...")) or any key_misplaced e.keys

unfoldable pub misplaced : Path → Bool
misplaced p = any elem_misplaced p

-- ---- 8: "key in an element twice"

abbrev pub same_name : Key → Key → Bool
same_name j k = same j.name k.name

unfoldable pub key_twice : Path → Bool
key_twice p = any (λ (e : Elem). twice same_name e.keys) p

-- ---- none of them

-- a path that no rule table refuses
unfoldable pub good_path : Path → Bool
good_path p = not (over_limit p or stray_byte p or misplaced p or key_twice p)
