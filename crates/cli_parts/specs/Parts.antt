-- Texts that are read in parts: the whole lines of what is there, and the rest, which stands before the next part.
use Rattle.std.specs.Prelude.{ℕ, suc, ◌-◌, ◌≤◌, ◌≡◌, List, [], ◌∷◌, ◌++◌, eqb, ltb, take, drop}
use Rattle.text.specs.Test.{whether◌then◌else◌}
use Rattle.text.specs.String.{Str}
use Rattle.text.specs.Frame.{part}
use Rattle.table_line.specs.Lines.{lines}

-- the bytes up to the last LF, and with it
unfoldable pub whole_length : Str → ℕ
whole_length [] = 0
whole_length (b ∷ s) = whether ltb 0 (whole_length s) then suc (whole_length s) else whether eqb b 10 then 1 else 0

-- the bytes of d from `from` up to `to` are the first of the `count` bytes of d'
pub record KeptFirst (d : List ℕ) (from to : ℕ) (d' : List ℕ) (count : ℕ) : Type 0 where
  pub among : to - from ≤ count
  pub first : take (to - from) d' ≡ part d from to

-- the lines that are handed out of the parts, one after another, and at the end the line that lacks its LF; `kept` stands before the next part
unfoldable pub lines_of : Str → List Str → List Str
lines_of kept [] = lines kept
lines_of kept (p ∷ ps) =
    lines (take (whole_length (kept ++ p)) (kept ++ p)) ++ lines_of (drop (whole_length (kept ++ p)) (kept ++ p)) ps
