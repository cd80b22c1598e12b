-- "`*` matches any nonempty value; `p*` a prefix; `*s` a suffix; else exact."
use Rattle.std.specs.Prelude.{Bool, not, ◌-◌, eqb, length, take, drop}
use Rattle.text.specs.Test.{whether◌then◌else◌}
use Rattle.text.specs.String.{Str, same}
use Rattle.text_affix.specs.Affix.{empty, begins, ends, star_first, star_last}

-- the pattern p matches the value v
unfoldable pub matches : Str → Str → Bool
matches p v =
    whether star_first p then (whether eqb (length p) 1 then not (empty v) else ends (drop 1 p) v)
    else whether star_last p then begins (take (length p - 1) p) v else same p v
