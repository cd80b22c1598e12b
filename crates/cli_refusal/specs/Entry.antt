-- Looking up a line of a text by how it begins.
use Rattle.std.specs.Prelude.{Bool, [], ◌∷◌, eqb, length, take, drop}
use Rattle.text.specs.Test.{◌and◌, whether◌then◌else◌}
use Rattle.text.specs.String.{Str}
use Rattle.text_search.specs.Search.{until, is}
use Rattle.text_affix.specs.Affix.{begins}

-- up to an LF
unfoldable pub up_to_line : Str → Str
up_to_line s = take (until (is 10) s) s

-- what follows `key` in the first line that begins with it; `fresh` says that a line begins here
unfoldable pub entry : Bool → Str → Str → Str
entry fresh key [] = []
entry fresh key (b ∷ s) = whether fresh and begins key (b ∷ s) then up_to_line (drop (length key) (b ∷ s)) else entry (eqb b 10) key s
