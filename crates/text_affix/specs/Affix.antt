-- Prefixes and suffixes of strings, and an asterisk at either end.
use Rattle.std.specs.Prelude.{Bool, ◌-◌, leb, eqb, length, take, drop, get_or}
use Rattle.text.specs.Test.{◌and◌}
use Rattle.text.specs.Byte.{is_star}
use Rattle.text.specs.String.{Str, same}

unfoldable pub empty : Str → Bool
empty s = eqb (length s) 0

-- v starts with p; v ends with p
unfoldable pub begins : Str → Str → Bool
begins p v = leb (length p) (length v) and same p (take (length p) v)

unfoldable pub ends : Str → Str → Bool
ends p v = leb (length p) (length v) and same p (drop (length v - length p) v)

-- an asterisk first, an asterisk last
abbrev pub star_first : Str → Bool
star_first s = is_star (get_or s 0 0)

abbrev pub star_last : Str → Bool
star_last s = is_star (get_or s (length s - 1) 0)
