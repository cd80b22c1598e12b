-- The report of an accepted table and an accepted log is the text of the counts.
use Prim.Native.Nat.{ℕ, ◌+◌}
use native.Mathlib.Omega.{arith}
use mathlib.Core.Path.{◌≡◌, ap, subst}
use mathlib.Core.List.{List, []}
use Rattle.text.specs.Test.{only}
use Rattle.text.specs.String.{Str, joined}
use Rattle.table.specs.Text.{check, table_of}
use Rattle.table.specs.Checked as checked
use Rattle.table_load.specs.declared.loaded.Table.{Table as Kept·Table}
use Rattle.table_load.specs.Loaded.{Kept}
use Rattle.table_check.proofs.Calls.{count_requires, grouped}
use Rattle.verdict.specs.Verdict.{Request}
use Rattle.table.specs.Table.{Table}
use Rattle.verdict_call.proofs.Holding.{safe, holding}
use Rattle.table_line.specs.Lines.{lines}
use Rattle.request_log.specs.Log.{check_log, log_of, judge_log}
use Rattle.season.specs.Report.{count, for_each, rule_count, rule_counts, cell, row, grid, figures, figure_line, report}
use Rattle.season.specs.Calls.{first_fault, fault, report_of, answered, stored, season_answer, season_lent}
use Rattle.season.specs.declared.Reported.{Reported}
use Rattle.season.specs.declared.Reported.TheVariants.{Refused}
use Rattle.std.specs.Prelude.{Result, Ok, Err}
use Rattle.refusal.specs.Refusal.{number}
use Rattle.refusal.specs.declared.fault.Fault.{Fault}
use Rattle.season_count.specs.Counts.{NoneIn}
use Rattle.season_count.specs.Sound.{Sound, LoadedOf}
use Rattle.season_count.specs.Loaded.{Is, Remembered}
use Rattle.season_count.specs.Counting.{CountsOf, CountedLines, Counts-lines}
use Rattle.season_count.specs.declared.count.Tally.{Tally}
use Rattle.season_count.specs.declared.loaded.Loaded.{Loaded}
use Rattle.season_count.specs.declared.run.Run.{Run}
use Rattle.season_call.specs.Counted.{CountedLog}
use Rattle.season_call.specs.Written.{figures_in, hands_out, left_in}

-- ---- a loaded table

module _ {text : List ℕ} {t : Kept·Table} (K : Kept text t) where
  pub sound : Sound t
  sound = record { members = count_requires K; rules = safe K }

  pub is_table : (L : Loaded) → LoadedOf t L → Is L (table_of text)
  is_table L A =
      record {
        holding = rw (A.rules.bytes_are, A.rules.starts_are, A.rules.holders_are, A.rules.count_is) (holding K);
        groups = λ user. rw (A.rules.bytes_are, A.users, A.owners, A.members) (grouped K user);
      }

-- ---- a whole log

-- what `count_lines` tells, by its answer
module _ (L : Loaded) (log : Str) (tally : Tally) (run : Run) (tally' : Tally) (r : Result (Unit {0}) Fault) (C : Counts-lines L log tally run tally' r) where
  pub lines_counted : (u : Unit {0}) → r ≡ Ok u → CountedLines L log tally run tally'
  unfolding Counts-lines
  lines_counted u e = subst (Counts-lines L log tally run tally') e C

  pub lines_refused : (f : Fault) → r ≡ Err f → judge_log (tally.lines + 1) (lines log) ≡ checked.Refused (number f.refusal) f.line
  unfolding Counts-lines
  lines_refused f e = subst (Counts-lines L log tally run tally') e C

pub nothing_remembered : (L : Loaded) (run : Run) → run.len ≡ 0 → Remembered L run
nothing_remembered L run e = record { head = λ l. absurd (omega arith) }

module _ (tally : Tally) (N : NoneIn tally.rules tally.grid tally.lines) where
  pub none_counted : (t : Table) → CountsOf t [] tally
  unfolding rule_counts for_each rule_count count only grid row cell
  none_counted t = record { rules = N.rules; rows = N.cells }

  module _ (L : Loaded) (log : Str) (run : Run) (tally' : Tally) where
    pub whole_log : CountedLines L log tally run tally' → CountedLog L log tally'
    unfolding check_log log_of
    whole_log C = record {
      accepted = rw N.none at C.accepted;
      counts_are = λ t is. C.counts_are t is [] (none_counted t);
    }

    pub whole_refused : {n l : ℕ} → judge_log (tally.lines + 1) (lines log) ≡ checked.Refused n l → check_log log ≡ checked.Refused n l
    unfolding check_log
    whole_refused e = rw N.none at e

-- ---- the call

module _ (t : Table) (qs : List Request) (tally : Tally) (c : CountsOf t qs tally) where
  figures_are : figures t qs ≡ figures_in tally
  unfolding figures grid row
  figures_are = rw (c.rules, c.rows)

  pub report_is : report t qs ≡ joined figure_line (figures_in tally)
  unfolding report
  report_is = ap (joined figure_line) figures_are

module _ (table log out : Str) where
  pub table_refused : (n l : ℕ) → check table ≡ checked.Refused n l → (Refused n l ≡ season_answer table log out) × (out ≡ season_lent table log out)
  unfolding season_answer season_lent fault first_fault answered stored
  table_refused n l e = (rw e, rw e)

  module _ (a : check table ≡ checked.Accepted) where
    pub log_refusal : (n l : ℕ) → check_log log ≡ checked.Refused n l → (Refused n l ≡ season_answer table log out) × (out ≡ season_lent table log out)
    unfolding season_answer season_lent fault first_fault answered stored
    log_refusal n l e = (rw (a, e), rw (a, e))

    module _ (b : check_log log ≡ checked.Accepted) (tally : Tally) (c : CountsOf (table_of table) (log_of log) tally) where
      pub reported : (r : Reported) (out' : List ℕ) → r ≡ hands_out (figures_in tally) out → out' ≡ left_in (figures_in tally) out
          → (r ≡ season_answer table log out) × (out' ≡ season_lent table log out)
      unfolding season_answer season_lent fault first_fault report_of
      reported r out' e w = (rw (a, b, report_is (table_of table) (log_of log) tally c) e, rw (a, b, report_is (table_of table) (log_of log) tally c) w)
