-- An example, by computation.
use mathlib.Core.Path.{◌≡◌, refl}
use mathlib.Core.List.{[], ◌∷◌}
use mathlib.Core.Option.{some}
use Rattle.text.specs.Test.{◌and◌, ◌or◌, whether◌then◌else◌, any, twice}
use Rattle.text.specs.String.{bytes, same, joined}
use Rattle.text.specs.Frame.{◌>>=◌, ret, string_bytes}
use Rattle.text_search.specs.Search.{until}
use Rattle.path.specs.Bytes.{counted, key_bytes, elem_bytes, path_bytes}
use Rattle.path.specs.Refusal.{unsized, key_over, elem_over, over_limit, outside_name, outside_value, key_stray, elem_stray, stray_byte, half_wild, key_misplaced, elem_misplaced, misplaced, key_twice, good_path}
use Rattle.path.specs.Spells.{whole}
use Rattle.path_read.specs.TextReader.{literal, name, item, value, each, key, element, elements, read_text}
use Rattle.path_read.specs.Calls.{bytes_for}

wildcard : bytes_for (bytes "/a[k=*]") ≡ some (1 ∷ 1 ∷ 97 ∷ 1 ∷ 1 ∷ 107 ∷ 1 ∷ 42 ∷ [])
unfolding bytes_for read_text elements element key each value item name until literal whole same ◌>>=◌ ret ◌and◌ ◌or◌ whether◌then◌else◌ any twice
    good_path over_limit elem_over key_over unsized stray_byte elem_stray key_stray outside_name outside_value misplaced elem_misplaced key_misplaced half_wild key_twice path_bytes elem_bytes key_bytes counted string_bytes joined
wildcard = refl
