-- Table texts with the same lines in another order.
use Rattle.std.specs.Prelude.{ℕ, ◌≡◌, Bool, true, leb}
use mathlib.Core.List.{List, [], ◌∷◌, filter_map, Permᴰ}
use Rattle.std.proofs.Math.Option.{Option, none, some}
use Rattle.text.specs.Test.{◌and◌}
use Rattle.text.specs.String.{Str}
use Rattle.table_line.specs.Lines.{lines}
use Rattle.table.specs.Frame.{Entry}
use Rattle.table.specs.Refusal.{Line, not_hex, unreadable, reads, line_of, kind_of}

-- what a line holds
unfoldable pub read : Line → Option Entry
read not_hex = none
read unreadable = none
read (reads e) = some e

-- what the lines hold, in order
unfoldable pub entries : List Str → List Entry
entries ls = filter_map (λ (l : Str). read (line_of l)) ls

-- "kinds never fall from line to line"
unfoldable pub rising : ℕ → List Entry → Bool
rising last [] = true
rising last (e ∷ es) = leb last (kind_of e) and rising (kind_of e) es

-- y has x's lines in another order, in which kinds never fall: group, member and rule lines each stand among their own kind
pub record ReorderedLines (x y : Str) : Type 0 where
  pub same : Permᴰ (lines x) (lines y)
  pub kinds : rising 0 (entries (lines y)) ≡ true
