-- A whole log: refused at its first faulty line, or the requests that it holds.
use Rattle.std.specs.Prelude.{ℕ, ◌+◌, List, [], ◌∷◌, ltb}
use Rattle.std.proofs.Math.Option.{Option, none, some}
use Rattle.limits.specs.Limits.{max_log_lines}
use Rattle.text.specs.Test.{whether◌then◌else◌, absent}
use Rattle.text.specs.String.{Str}
use Rattle.table_line.specs.Lines.{lines}
use Rattle.table.specs.Checked.{Checked}
use Rattle.table.specs.Checked.{Accepted, Refused}
use Rattle.verdict.specs.Verdict.{Request}
use Rattle.request_log.specs.Request.{request_of}

-- "the earliest log line that is number 1,000,001 (50) or bad (51 with its line), 50 first on one line"; the lines count from `number`
unfoldable pub judge_log : ℕ → List Str → Checked
judge_log number [] = Accepted
judge_log number (l ∷ ls) =
    whether ltb max_log_lines number then Refused 50 0
    else whether absent (request_of l) then Refused 51 number
    else judge_log (number + 1) ls

unfoldable pub check_log : Str → Checked
check_log log = judge_log 1 (lines log)

-- a request before the others, where there is one
unfoldable pub before : Option Request → List Request → List Request
before none qs = qs
before (some q) qs = q ∷ qs

-- the requests of the lines, in order; of an accepted log each line has one
unfoldable pub requests_of : List Str → List Request
requests_of [] = []
requests_of (l ∷ ls) = before (request_of l) (requests_of ls)

unfoldable pub log_of : Str → List Request
log_of log = requests_of (lines log)
