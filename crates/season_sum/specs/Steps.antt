-- What the programs answer that read a line of a report.
use Rattle.std.specs.Prelude.{ℕ, ◌≤◌, ◌<◌, ◌≡◌, length, drop, Option as RustOption, Some, None}
use Rattle.std.proofs.Math.Option.{Option, none, some}
use Rattle.text.specs.String.{Str}
use Rattle.season_sum.specs.Reading.{number_from, figure_of}
use Rattle.season_sum.specs.declared.reading.Figure.{Figure}

-- r is what was read from `at` on: a number and where the next line begins, or nothing
pub data Reads (text : Str) (at : ℕ) (f : Option (ℕ × Str)) : RustOption Figure → Type 0 where
  number : {r : Figure} → f ≡ some (r.value, drop r.next text) → at < r.next → r.next ≤ length text → Reads text at f (Some r)
  bad : f ≡ none → Reads text at f None

-- the number that is n so far and goes on at `at`
abbrev pub ReadsNumber : Str → ℕ → ℕ → RustOption Figure → Type 0
ReadsNumber text at n r = Reads text at (number_from n (drop at text)) r

-- the figure of the line at `at`
abbrev pub ReadsFigure : Str → ℕ → RustOption Figure → Type 0
ReadsFigure text at r = Reads text at (figure_of (drop at text)) r
