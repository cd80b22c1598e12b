-- The season report: "for each of the 256 rules how often it decided, and a grid of read and write against permit, denied by a rule, and denied by default."
-- "Every number equals the count in a definition over the single-path verdicts, and the grid's sum equals the number of log lines."
-- The definitions named here are those of the report's contract: a log is accepted where `check_log` says so, `log_of` are the requests that it holds, and
-- `report_of` is the text of `figures`. The single-path verdict is `path_verdict`, that of the contract of `burgee_path_verdict`.
-- What is not promised: rule numbers change with the order of the table's lines, so the places of the rules' counts do; only ids do not.
use Rattle.std.specs.Prelude.{ℕ, ◌+◌, ◌*◌, ◌≤◌, ◌<◌, ◌≡◌, Bool, false, eqb, length, drop, get_or}
use mathlib.Core.List.{List, [], ◌∷◌, ◌++◌, map, Permᴰ}
use Rattle.std.proofs.Math.Option.{some}
use Rattle.std.proofs.Math.ListN.{get_elem?}
use Rattle.limits.specs.Limits.{max_rules, max_log_lines}
use Rattle.text.specs.Test.{◌and◌, ◌∈◌, any, absent}
use Rattle.text.specs.String.{Str, joined}
use Rattle.text.specs.Refusal.{clear}
use Rattle.path_read.specs.Text.{path_text}
use Rattle.table_line.specs.Lines.{lines}
use Rattle.table.specs.Table.{Rule, Table}
use Rattle.table.specs.Text.{check, table_of}
use Rattle.table.specs.Checked.{Accepted, Refused}
use Rattle.verdict.specs.Verdict.{Request}
use Rattle.verdict_order.specs.Reordering.{ReorderedLines}
use Rattle.verdict_request.specs.Calls.{request_refusal, path_verdict}
use Rattle.verdict_request.specs.PathAnswer.{PathAnswer}
use Rattle.request_log.specs.Request.{request_of}
use Rattle.request_log.specs.Log.{check_log, log_of}
use Rattle.season.specs.Report.{decides, permitted, denied_by_rule, denied_by_default, count, rule_counts, grid, figures, figure_line}
use Rattle.season.specs.Calls.{report_of, season_answer, season_lent}
use Rattle.season.specs.Total.{total}
use Rattle.season.specs.Parts.{InParts, judge_parts, requests_of_parts}
use Rattle.season.specs.declared.Reported.TheVariants as reported
use Rattle.promises.specs.First.{First}

-- an accepted table text x, and an accepted log
module _ (x log : Str) (ok : check x ≡ Accepted) (fine : check_log log ≡ Accepted) where
  abbrev pub t : Table
  t = table_of x

  abbrev pub qs : List Request
  qs = log_of log

  -- "the single-path verdicts": what the verdict call answers to a request of the log, asked with the text that its path bytes spell
  abbrev pub answer : Request → PathAnswer
  answer q = path_verdict x q.user q.mode q.origin (path_text q.path)

  -- how many requests of the log have that mode and that outcome
  abbrev pub outcomes : ℕ → (PathAnswer → Bool) → ℕ
  outcomes mode outcome = count (λ (q : Request). eqb q.mode mode and outcome (answer q)) qs

  pub record ReportPromise : Type 0 where
    -- each line of the log is a request, and the verdict call refuses none of them
    pub requests : map request_of (lines log) ≡ map some qs
    pub accepted : (q : Request) → q ∈ qs → request_refusal q.user q.mode q.origin (path_text q.path) ≡ clear
    -- "for each of the 256 rules how often it decided"; a number that no rule has decided nothing
    pub rules : (i : ℕ) → i < max_rules → get_or (figures t qs) i 0 ≡ count (λ (q : Request). decides i (answer q)) qs
    pub unused : (i : ℕ) → length t.rules ≤ i → i < max_rules → get_or (figures t qs) i 0 ≡ 0
    -- "a grid of read and write against permit, denied by a rule, and denied by default"
    pub cells : grid t qs
        ≡ (outcomes 1 permitted ∷ outcomes 1 denied_by_rule ∷ outcomes 1 denied_by_default ∷ [])
        ∷ (outcomes 2 permitted ∷ outcomes 2 denied_by_rule ∷ outcomes 2 denied_by_default ∷ []) ∷ []
    -- "The report is 262 decimal lines": the rules' counts, then the grid
    pub all : figures t qs ≡ rule_counts t qs ++ joined (λ (r : List ℕ). r) (grid t qs)
    pub number : length (figures t qs) ≡ max_rules + 6
    pub text : lines (report_of x log) ≡ map figure_line (figures t qs)
    -- no report is longer: a count has at most seven digits
    pub longest : length (report_of x log) ≤ (max_rules + 6) * 8
    -- "the grid's sum equals the number of log lines"; and so does that of the rules' counts and the two cells of the default
    pub grid_sum : total (joined (λ (r : List ℕ). r) (grid t qs)) ≡ length (lines log)
    pub rules_sum : total (rule_counts t qs) + (outcomes 1 denied_by_default + outcomes 2 denied_by_default) ≡ length (lines log)

  -- a log with the same lines in another order: accepted too, with the same report
  pub record LogOrderPromise (other : Str) (same : Permᴰ (lines log) (lines other)) : Type 0 where
    pub accepted : check_log other ≡ Accepted
    pub report : report_of x other ≡ report_of x log

  -- another accepted log after this one, if they have no more lines together than a log may have: accepted, and each figure is the sum of the two
  pub record TwoLogsPromise (other : Str) (also : check_log other ≡ Accepted) (room : length (lines log) + length (lines other) ≤ max_log_lines) : Type 0 where
    pub accepted : check_log (log ++ other) ≡ Accepted
    pub sums : (i : ℕ) → get_or (figures t (log_of (log ++ other))) i 0 ≡ get_or (figures t qs) i 0 + get_or (figures t (log_of other)) i 0

  -- a table text y with x's lines in another order, each among its own kind: accepted too; a rule has the count of the rule of its id, and the grid is the same
  pub record TableOrderPromise (y : Str) (other : ReorderedLines x y) : Type 0 where
    pub accepted : check y ≡ Accepted
    pub rules : (i j : ℕ) (r s : Rule) → get_elem? t.rules i ≡ some r → get_elem? (table_of y).rules j ≡ some s → r.id ≡ s.id
        → get_or (figures t qs) i 0 ≡ get_or (figures (table_of y) qs) j 0
    pub cells : grid t qs ≡ grid (table_of y) qs

-- any table, and a log in parts, each of which but the last ends with LF: counted one after another, each with the lines before it, they are the whole log
module _ (t : Table) (log : Str) (parts : List Str) (cut : InParts log parts) where
  pub record PartsPromise : Type 0 where
    -- accepted where the whole log is, or refused with the same number at the same line
    pub answer : judge_parts 1 parts ≡ check_log log
    -- the requests are those of the whole log, in their order, and each figure is the sum of those of the parts
    pub requests : requests_of_parts parts ≡ log_of log
    pub sums : (i : ℕ) → total (map (λ (p : Str). get_or (figures t (log_of p)) i 0) parts) ≡ get_or (figures t (log_of log)) i 0

-- any table text, any log and any lent buffer
module _ (x log : Str) (out : List ℕ) where
  -- a line "isn't so framed or gets 20 to 22"
  abbrev pub bad : Str → Bool
  bad l = absent (request_of l)

  pub record ReportAnswers : Type 0 where
    -- "Table faults come first"
    pub table : (number line : ℕ) → check x ≡ Refused number line → season_answer x log out ≡ reported.Refused number line
    -- "then the earliest log line that is number 1,000,001 (50) or bad (51 with its line), 50 first on one line"; a log is accepted where none is
    pub bad_line : (n : ℕ) → n < max_log_lines → First bad n (lines log) → check_log log ≡ Refused 51 (n + 1)
    pub too_many : max_log_lines < length (lines log) → ((n : ℕ) → First bad n (lines log) → max_log_lines ≤ n) → check_log log ≡ Refused 50 0
    pub good : length (lines log) ≤ max_log_lines → any bad (lines log) ≡ false → check_log log ≡ Accepted
    pub log_fault : (number line : ℕ) → check x ≡ Accepted → check_log log ≡ Refused number line → season_answer x log out ≡ reported.Refused number line
    -- the report fills the start of the buffer and nothing beyond; 23 where it "doesn't fit the lent buffer"
    pub fits : check x ≡ Accepted → check_log log ≡ Accepted → length (report_of x log) ≤ length out
        → (season_answer x log out ≡ reported.Length (length (report_of x log)))
        × (season_lent x log out ≡ report_of x log ++ drop (length (report_of x log)) out)
    pub too_long : check x ≡ Accepted → check_log log ≡ Accepted → length out < length (report_of x log) → season_answer x log out ≡ reported.Refused 23 0
    -- a refused call leaves the buffer as it stood
    pub refused : (number line : ℕ) → season_answer x log out ≡ reported.Refused number line → season_lent x log out ≡ out
