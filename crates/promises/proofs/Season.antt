-- The season report's promises, kept.
use Prim.Native.Nat.{ℕ, suc, ◌+◌, ◌≤◌, ◌<◌}
use native.Mathlib.Omega.{arith}
use borrow.Author.Tests.{ltb-false, le-ltb, le-leb, lt-leb}
use mathlib.Core.Path.{◌≡◌, refl, sym, ap, ◌∙◌}
use mathlib.Core.Bool.{Bool}
use mathlib.Core.List.{List, [], ◌∷◌, ◌++◌, Permᴰ}
use lib.Dec.{eqb, ltb, leb}
use lib.ListN.{length, drop}
use Rattle.limits.specs.Limits.{max_rules, max_log_lines}
use Rattle.text.specs.Test.{◌and◌, whether◌then◌else◌, ◌∈◌, absent}
use Rattle.text.specs.String.{Str, joined}
use Rattle.text.specs.Fill.{put}
use Rattle.text.proofs.Tests.{by, none_any}
use Rattle.path_read.specs.Text.{path_text}
use Rattle.table_line.specs.Lines.{lines}
use Rattle.table.specs.Table.{Table}
use Rattle.table.specs.Text.{check, table_of}
use Rattle.table.specs.Checked.{Checked}
use Rattle.table.specs.Checked.{Accepted, Refused}
use Rattle.verdict.specs.Verdict.{Request, decider}
use Rattle.verdict_order.specs.Reordering.{ReorderedLines}
use Rattle.verdict_order.proofs.Reordered.{accepted_again, tables_reordered, accepted_orderly, accepted_whole}
use Rattle.verdict_request.specs.Calls.{decided_by, path_verdict}
use Rattle.verdict_request.specs.PathAnswer.{PathAnswer}
use Rattle.request_log.specs.Request.{request_of}
use Rattle.request_log.specs.Log.{judge_log, check_log, log_of}
use Rattle.season.specs.Report.{answer_to, decides, permitted, denied_by_rule, denied_by_default, count, rule_count, cell, row, grid, figures, report}
use Rattle.season.specs.Parts.{InParts}
use Rattle.season.specs.Calls.{first_fault, fault, report_of, answered, stored, season_answer, season_lent}
use Rattle.season.specs.declared.Reported.TheVariants as reported
use Rattle.season.proofs.Totals.{ReadsOrWrites, count_same, below, answered as all-answered, no_such_rule, grid_total, rules_total}
use Rattle.season.proofs.Figures.{figures_length, rule_figure, report_lines_lem, report_short, figures_added}
use Rattle.season.proofs.Asked.{log_closes, log_asked, each_line, log_length, log_few}
use Rattle.season.proofs.Orders.{log_again, same_figures, same_count, same_grid}
use Rattle.season.proofs.Parts.{both_logs, both_accepted, parts_judged, parts_requests, parts_sums}
use Rattle.promises.specs.Season.{ReportPromise, LogOrderPromise, TwoLogsPromise, TableOrderPromise, PartsPromise, ReportAnswers}
use Rattle.promises.specs.First.{First, here, later}
use Rattle.promises.proofs.Verdicts.{path_promise}

module _ (x log : Str) (ok : check x ≡ Accepted) (fine : check_log log ≡ Accepted) where
  abbrev t : Table
  t = table_of x

  abbrev qs : List Request
  qs = log_of log

  abbrev answer : Request → PathAnswer
  answer q = path_verdict x q.user q.mode q.origin (path_text q.path)

  -- the report's answer to a request is the verdict call's
  is_answer : (q : Request) → q ∈ qs → answer_to t q ≡ answer q
  unfolding answer_to
  is_answer q m =
      let a = log_asked log q m in
      ap (λ (r : Request). decided_by (decider t r)) (sym a.same)
      ∙ sym (path_promise x q.user q.mode q.origin (path_text q.path) ok a.accepted).answers

  rule_count_lem : (i : ℕ) → rule_count t qs i ≡ count (λ (q : Request). decides i (answer q)) qs
  unfolding rule_count
  rule_count_lem i = count_same _ _ qs (λ q m. ap (decides i) (is_answer q m))

  cell_count : (mode : ℕ) (outcome : PathAnswer → Bool) → cell t qs mode outcome ≡ count (λ (q : Request). eqb q.mode mode and outcome (answer q)) qs
  unfolding cell
  cell_count mode outcome = count_same _ _ qs (λ q m. ap (λ (a : PathAnswer). eqb q.mode mode and outcome a) (is_answer q m))

  pub report_promise : ReportPromise x log ok fine
  unfolding report_of figures grid row joined
  report_promise =
      let few = (accepted_whole x ok).few_rules in
      let told = all-answered t max_rules few in
      let modes : (q : Request) → q ∈ qs → ReadsOrWrites q = λ q m. (log_asked log q m).mode in
      record {
        requests = sym (each_line log fine);
        accepted = λ q m. (log_asked log q m).accepted;
        rules = λ i h. rule_figure t qs i h ∙ rule_count_lem i;
        unused = λ i l h. rule_figure t qs i h ∙ no_such_rule t qs i l;
        cells = rw (
          cell_count 1 permitted,
          cell_count 1 denied_by_rule,
          cell_count 1 denied_by_default,
          cell_count 2 permitted,
          cell_count 2 denied_by_rule,
          cell_count 2 denied_by_default,
        );
        all = refl;
        number = figures_length t qs;
        text = report_lines_lem t qs;
        longest = report_short t qs (log_few log fine);
        grid_sum = grid_total t told qs modes ∙ log_length log fine;
        rules_sum = rw (← cell_count 1 denied_by_default, ← cell_count 2 denied_by_default) (rules_total t told qs modes ∙ log_length log fine);
      }

  pub log_order_promise : (other : Str) (same : Permᴰ (lines log) (lines other)) → LogOrderPromise x log ok fine other same
  unfolding report_of report
  log_order_promise other same = record { accepted = log_again log other same fine; report = rw (same_figures log other same t) }

  pub two_logs_promise : (other : Str) (also : check_log other ≡ Accepted) (room : length (lines log) + length (lines other) ≤ max_log_lines)
      → TwoLogsPromise x log ok fine other also room
  two_logs_promise other also room = record {
    accepted = both_accepted log other fine also room;
    sums = rw (both_logs log other fine) (figures_added t qs (log_of other));
  }

  pub table_order_promise : (y : Str) (other : ReorderedLines x y) → TableOrderPromise x log ok fine y other
  table_order_promise y other =
      let again = accepted_again x y ok other in
      let u = table_of y in
      let p = tables_reordered x y other in
      let o = accepted_orderly x ok in
      record {
        accepted = again;
        rules = λ i j r s here there e.
            let k = below t.rules i r here in
            let l = below u.rules j s there in
            rule_figure t qs i (omega (arith, (accepted_whole x ok).few_rules))
            ∙ same_count t u o p qs i j r s here there e
            ∙ sym (rule_figure u qs j (omega (arith, (accepted_whole y again).few_rules)));
        cells = same_grid t u o p qs;
      }

-- ---- parts

module _ (t : Table) (log : Str) (parts : List Str) (cut : InParts log parts) where
  pub parts_promise : PartsPromise t log parts cut
  unfolding check_log
  parts_promise = record { answer = parts_judged cut 1; requests = parts_requests cut; sums = λ i. parts_sums t i cut }

-- ---- the answers

abbrev bad : Str → Bool
bad l = absent (request_of l)

-- the lines count from k + 1
judged_bad : (k n : ℕ) (ls : List Str) → k + n < max_log_lines → First bad n ls → judge_log (k + 1) ls ≡ Refused 51 (k + n + 1)
unfolding judge_log whether◌then◌else◌
judged_bad k n [] h x = elim x [ ]
judged_bad k n (l ∷ ls) h (here e) = rw (le-ltb max_log_lines (k + 1) (omega arith), e) (ap (Refused 51) (omega arith))
judged_bad k n (l ∷ ls) h (later {n = m} e f) =
    rw (le-ltb max_log_lines (k + 1) (omega arith), e) (judged_bad (k + 1) m ls (omega arith) f ∙ ap (Refused 51) (omega arith))

judged_many : (k : ℕ) (ls : List Str) → max_log_lines < k + length ls → ((n : ℕ) → First bad n ls → max_log_lines ≤ k + n) → k ≤ max_log_lines
    → judge_log (k + 1) ls ≡ Refused 50 0
unfolding judge_log whether◌then◌else◌
judged_many k [] h f b = absurd (omega arith)
judged_many k (l ∷ ls) h f b =
    by (ltb max_log_lines (k + 1)) (λ u. rw u)
    (λ u. let c : k + 1 ≤ max_log_lines = ltb-false _ _ u in
    by (bad l)
    (λ v. let z = f 0 (here v) in absurd (omega arith))
    (λ v. rw (u, v) (judged_many (k + 1) ls (omega arith) (λ n g. let z = f (suc n) (later v g) in omega arith) c)))

-- where it is refused, the buffer stays
stays : (c : Checked) (text : Str) (out : List ℕ) (n l : ℕ) → answered c text out ≡ reported.Refused n l → stored c text out ≡ out
unfolding answered stored whether◌then◌else◌
stays (Refused m k) text out n l e = refl
stays Accepted text out n l e =
    by (leb (length text) (length out)) (λ u. let e' = rw u at e in let z : ◌≡◌ {A = ℕ} 0 1 = cc in absurd (omega arith)) (λ u. rw u)

module _ (x log : Str) (out : List ℕ) where
  table_fault : (n l : ℕ) → check x ≡ Refused n l → season_answer x log out ≡ reported.Refused n l
  unfolding season_answer fault first_fault answered
  table_fault n l e = rw e

  log_fault : (n l : ℕ) → check x ≡ Accepted → check_log log ≡ Refused n l → season_answer x log out ≡ reported.Refused n l
  unfolding season_answer fault first_fault answered
  log_fault n l e f = rw (e, f)

  fits : check x ≡ Accepted → check_log log ≡ Accepted → length (report_of x log) ≤ length out
      → (season_answer x log out ≡ reported.Length (length (report_of x log))) × (season_lent x log out ≡ report_of x log ++ drop (length (report_of x log)) out)
  unfolding season_answer season_lent fault first_fault answered stored put whether◌then◌else◌
  fits e f h =
      let i : 0 + length (report_of x log) ≡ length (report_of x log) = omega arith in
      rw (e, f, le-leb _ _ h) (refl, ap (λ (k : ℕ). report_of x log ++ drop k out) i)

  too_long : check x ≡ Accepted → check_log log ≡ Accepted → length out < length (report_of x log) → season_answer x log out ≡ reported.Refused 23 0
  unfolding season_answer fault first_fault answered whether◌then◌else◌
  too_long e f h = rw (e, f, lt-leb _ _ h)

  pub report_answers : ReportAnswers x log out
  unfolding season_answer season_lent check_log
  report_answers = record {
    table = table_fault;
    bad_line = λ n h f. judged_bad 0 n (lines log) (omega arith) f ∙ ap (Refused 51) (omega arith);
    too_many = λ h f. judged_many 0 (lines log) (omega arith) (λ n g. let z = f n g in omega arith) (omega arith);
    good = λ h e. log_closes log (record { few = h; good = λ l m. none_any bad (lines log) e m });
    log_fault = log_fault;
    fits = fits;
    too_long = too_long;
    refused = stays (fault x log) (report_of x log) out;
  }
