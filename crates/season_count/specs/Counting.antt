-- What counting the lines of a log answers, and leaves in the tally.
use Rattle.std.specs.Prelude.{ℕ, ◌+◌, ◌≤◌, ◌<◌, ◌≡◌, ◌⊎◌, List, ◌∷◌, [], ◌++◌, length, drop, Option, Some, None, Result, Ok, Err}
use Rattle.std.proofs.Math.Option as math
use Rattle.limits.specs.Sizes.{max_log_line}
use Rattle.text.specs.String.{Str}
use Rattle.table_line.specs.Lines.{lines}
use Rattle.table.specs.Table.{Table}
use Rattle.table.specs.Checked as checked
use Rattle.verdict.specs.Verdict.{Request}
use Rattle.refusal.specs.Refusal.{number}
use Rattle.refusal.specs.declared.fault.Fault.{Fault}
use Rattle.request_log.specs.Request.{request_of}
use Rattle.request_log.specs.Log.{judge_log, requests_of}
use Rattle.season.specs.Report.{rule_counts, grid}
use Rattle.season_count.specs.Loaded.{Is, Remembered}
use Rattle.season_count.specs.declared.count.Tally.{Tally}
use Rattle.season_count.specs.declared.run.Run.{Run}
use Rattle.season_count.specs.declared.loaded.Loaded.{Loaded}

-- the counts are those of the requests
pub record CountsOf (t : Table) (qs : List Request) (tally : Tally) : Type 0 where
  pub rules : tally.rules ≡ rule_counts t qs
  pub rows : tally.grid ≡ grid t qs

-- `to` is as far as a good line that starts at `from` can reach in a text that ends at `end`
pub record Reaches (from end to : ℕ) : Type 0 where
  pub within : to ≤ end
  pub near : to ≤ from + max_log_line
  pub far : (to ≡ end) ⊎ (to ≡ from + max_log_line)

-- the first of the lines from `from` on is bad
pub record BadLine (text : Str) (from : ℕ) : Type 0 where
  pub line : Str
  pub others : List Str
  pub first : lines (drop from text) ≡ line ∷ others
  pub bad : request_of line ≡ math.none

module _ (L : Loaded) where
  -- it was counted, and the next line starts at `next`
  pub record CountedLine (text : Str) (from : ℕ) (tally : Tally) (next : ℕ) (run : Run) (tally' : Tally) : Type 0 where
    pub line : Str
    pub request : Request
    pub first : lines (drop from text) ≡ line ∷ lines (drop next text)
    pub good : request_of line ≡ math.some request
    pub goes : (from < next) × (next ≤ length text)
    pub more : tally'.lines ≡ tally.lines + 1
    pub kept : Remembered L run
    pub counts_are : (t : Table) → Is L t → (qs : List Request) → CountsOf t qs tally → CountsOf t (qs ++ (request ∷ [])) tally'

  unfoldable pub Counts-line : Str → ℕ → Tally → Run → Tally → Option ℕ → Type 0
  Counts-line text from tally run tally' (Some next) = CountedLine text from tally next run tally'
  Counts-line text from tally run tally' None = BadLine text from

  -- all lines of the text were counted
  pub record CountedLines (text : Str) (tally : Tally) (run : Run) (tally' : Tally) : Type 0 where
    pub accepted : judge_log (tally.lines + 1) (lines text) ≡ checked.Accepted
    pub all_lines : tally'.lines ≡ tally.lines + length (lines text)
    pub kept : Remembered L run
    pub counts_are : (t : Table) → Is L t → (qs : List Request) → CountsOf t qs tally → CountsOf t (qs ++ requests_of (lines text)) tally'

  unfoldable pub Counts-lines : Str → Tally → Run → Tally → Result (Unit {0}) Fault → Type 0
  Counts-lines text tally run tally' (Ok _) = CountedLines text tally run tally'
  Counts-lines text tally run tally' (Err f) = judge_log (tally.lines + 1) (lines text) ≡ checked.Refused (number f.refusal) f.line
