-- A log in parts, counted one after another.
use Rattle.std.specs.Prelude.{ℕ, ◌+◌, List, [], ◌∷◌, ◌++◌, length}
use Rattle.text.specs.String.{Str}
use Rattle.table_line.specs.Lines.{lines}
use Rattle.table.specs.Checked.{Checked}
use Rattle.table.specs.Checked.{Accepted}
use Rattle.verdict.specs.Verdict.{Request}
use Rattle.request_log.specs.Log.{judge_log, log_of}
use Rattle.season.specs.Calls.{first_fault}

-- the parts, one after another, are the log; each but the last ends with LF
pub data InParts : Str → List Str → Type 0 where
  last : (part : Str) → InParts part (part ∷ [])
  next : (line : Str) {rest : Str} {parts : List Str} → InParts rest parts → InParts ((line ++ (10 ∷ [])) ++ rest) ((line ++ (10 ∷ [])) ∷ parts)

-- the first fault of the parts; the lines of the first one count from `number`, those of each other one go on from there
unfoldable pub judge_parts : ℕ → List Str → Checked
judge_parts number [] = Accepted
judge_parts number (p ∷ ps) = first_fault (judge_log number (lines p)) (judge_parts (number + length (lines p)) ps)

-- the requests of the parts, one after another
unfoldable pub requests_of_parts : List Str → List Request
requests_of_parts [] = []
requests_of_parts (p ∷ ps) = log_of p ++ requests_of_parts ps
