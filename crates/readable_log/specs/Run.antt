-- What is answered of lines that were converted one after another.
use Rattle.std.specs.Prelude.{ℕ, ◌≤◌, ◌<◌, ◌≡◌, Bool, true, false, List, [], ◌∷◌, ◌++◌, ltb, length, take, drop}
use Rattle.std.proofs.Math.Option.{Option, none, some}
use Rattle.limits.specs.Sizes.{max_log_line}
use Rattle.text.specs.String.{Str}
use Rattle.text.specs.Frame.{part}
use Rattle.table_line.specs.Lines.{lines}
use Rattle.readable_parts.specs.declared.Direction.{Direction}
use Rattle.readable_parts.specs.declared.Direction.TheVariants.{Show, Pack}
use Rattle.readable_lines.specs.Steps.{max_made_line}
use Rattle.readable_log.specs.declared.Run.{Run}

-- w before what there is
unfoldable pub before : Option Str → Option Str → Option Str
before none o = none
before (some w) none = none
before (some w) (some v) = some (w ++ v)

-- all lines converted by g, one after another; none where one is not
unfoldable pub converted : (Str → Option Str) → List Str → Option Str
converted g [] = some []
converted g (l ∷ ls) = before (g l) (converted g ls)

-- a line of so many bytes is longer than any that can be shown; a readable one may be of any length
unfoldable pub overlong : Direction → ℕ → Bool
overlong Show n = ltb max_log_line n
overlong Pack n = false

-- the first line of the text from `from` on goes up to `end`
pub record LineEnds (text : Str) (from end : ℕ) : Type 0 where
  pub past : from < end
  pub inside : end ≤ length text
  pub first : lines (drop from text) ≡ part text from end ∷ lines (drop end text)

-- some lines of the text, `most` at most, were converted by g, and what is made of them stands at the start of d'; the next one is at `next`. Where it
-- stopped, g does not convert that one; elsewhere there was no more, or no more room
pub record Runs (g : Str → Option Str) (text : Str) (most : ℕ) (d d' : List ℕ) (r : Run) : Type 0 where
  pub taken : List Str
  pub text_is : lines text ≡ taken ++ lines (drop r.next text)
  pub count_is : length taken ≡ r.count
  pub few : r.count ≤ most
  pub inside : r.next ≤ length text
  pub result : Str
  pub result_is : converted g taken ≡ some result
  pub stands : take r.made d' ≡ result
  pub made_is : r.made ≡ length result
  pub room : r.made ≤ length d'
  pub stops : r.stopped ≡ true → (l : Str) × (ls : List Str) × (lines (drop r.next text) ≡ l ∷ ls) × (g l ≡ none)
  pub goes : r.stopped ≡ false → 0 < length text → 0 < most → max_made_line ≤ length d → 0 < r.next
