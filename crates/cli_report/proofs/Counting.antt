-- What counting the lines of a part tells, and that parts counted one after another are a log that was counted.
use Prim.Native.Nat.{ℕ, ◌+◌}
use mathlib.Core.Path.{◌≡◌, refl, sym, ap, ◌∙◌, subst}
use mathlib.Core.List.{List, [], ◌++◌}
use lib.ListN.{length, length-append}
use Rattle.text.specs.String.{Str}
use Rattle.table_line.specs.Lines.{lines}
use Rattle.table.specs.Text.{table_of}
use Rattle.table.specs.Checked.{Accepted}
use Rattle.table_load.specs.declared.loaded.Table.{Table}
use Rattle.table_load.specs.Loaded.{Kept}
use Rattle.verdict.specs.Verdict.{Request}
use Rattle.request_log.specs.Log.{judge_log, check_log, requests_of, log_of}
use Rattle.season.proofs.Parts.{both_lines, both_logs, both_checked}
use Rattle.std.specs.Prelude.{Option, Some, None, IfSome}
use Rattle.season_count.specs.Counts.{NoneIn}
use Rattle.season_count.specs.Counting.{CountsOf, CountedLines}
use Rattle.season_count.specs.Sound.{LoadedOf}
use Rattle.season_count.specs.declared.count.Tally.{Tally}
use Rattle.season_count.specs.declared.loaded.Loaded.{Loaded}
use Rattle.season_count.specs.declared.run.Run.{Run}
use Rattle.season_call.specs.Counted.{CountedLog}
use Rattle.season_call.proofs.Reporting.{is_table, none_counted}
use Rattle.cli_report.specs.Counted.{CountedRead, CountedOn}

-- ---- part after part

module _ (L : Loaded) where
  -- a log of so many lines is counted
  pub record SoFar (tally : Tally) : Type 0 where
    pub read : CountedRead L tally
    pub number : tally.lines ≡ length (lines read.log)

  pub nothing_so_far : (tally : Tally) → NoneIn tally.rules tally.grid tally.lines → SoFar tally
  unfolding check_log log_of lines judge_log requests_of
  nothing_so_far tally N = record { read = record { log = []; counted = record { accepted = refl; counts_are = λ t is. none_counted tally N t } }; number = N.none }

  module _ (text : Str) (tally : Tally) (run : Run) (tally' : Tally) (S : SoFar tally) (C : CountedLines L text tally run tally') where
    abbrev before : Str
    before = S.read.log

    abbrev fine : check_log before ≡ Accepted
    fine = S.read.counted.accepted

    longer : CountedLog L (before ++ text) tally'
    unfolding log_of
    longer = record {
      accepted = both_checked before text fine ∙ ap (λ (k : ℕ). judge_log (k + 1) (lines text)) (sym S.number) ∙ C.accepted;
      counts_are = λ t is.
          subst (λ (qs : List Request). CountsOf t qs tally') (sym (both_logs before text fine))
          (C.counts_are t is (log_of before) (S.read.counted.counts_are t is));
    }

    pub so_far_longer : SoFar tally'
    so_far_longer = record {
      read = record { log = before ++ text; counted = longer };
      number =
          C.all_lines ∙ ap (λ (k : ℕ). k + length (lines text)) S.number ∙ sym (length-append (lines before) (lines text))
          ∙ ap length (sym (both_lines before text fine));
    }

-- ---- on a table text

counted_on : {text : List ℕ} {t : Table} → Kept text t → (L : Loaded) → LoadedOf t L → {tally : Tally} → CountedRead L tally → CountedOn text tally
counted_on {text} K L A R = record {
  accepted = K.accepts;
  log = R.log;
  fine = R.counted.accepted;
  counts_are = R.counted.counts_are (table_of text) (is_table K L A);
}

pub some_counted_on : {text : List ℕ} {t : Table} → Kept text t → (L : Loaded) → LoadedOf t L → (r : Option Tally) → IfSome r (CountedRead L)
    → IfSome r (CountedOn text)
some_counted_on K L A None h = h
some_counted_on K L A (Some tally) h = counted_on K L A h
