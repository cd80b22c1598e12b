-- What is to be shown of reports and their sums.
use Rattle.std.specs.Prelude.{ℕ, ◌+◌, ◌^◌, ◌<◌, ◌≡◌, List, length, get_or}
use Rattle.limits.specs.Sizes.{report_lines}
use Rattle.text.specs.Test.{◌∈◌}
use Rattle.text.specs.String.{Str}
use Rattle.season_sum.specs.Figures.{report_text}
use Rattle.season_sum.specs.Reading.{reading, figures_of}
use Rattle.season_sum.specs.Adding.{adding, after_report, sums_after}
use Rattle.season_sum.specs.Outcome.{Good}

-- each figure has 64 bits at most
abbrev pub AllFit : List ℕ → Type 0
AllFit ns = (n : ℕ) → n ∈ ns → n < 2 ^ 64

-- the report of figures reads, and gives these figures back
pub record ReadsBack : Type 0 where
  pub good : (ns : List ℕ) → AllFit ns → length ns ≡ report_lines → reading report_lines 1 (report_text ns) ≡ Good
  pub back : (ns : List ℕ) → AllFit ns → length ns ≡ report_lines → figures_of report_lines (report_text ns) ≡ ns

-- a text that reads is the report of its figures, and has all of them
pub record OnlyReports : Type 0 where
  pub report : (text : Str) → reading report_lines 1 text ≡ Good → text ≡ report_text (figures_of report_lines text)
  pub whole : (text : Str) → reading report_lines 1 text ≡ Good → length (figures_of report_lines text) ≡ report_lines

-- a report added to sums gives the sums place by place
pub record AddsUp : Type 0 where
  pub sums : (text : Str) (ms : List ℕ) → length ms ≡ report_lines → after_report text ms ≡ Good
      → (i : ℕ) → get_or (sums_after text ms) i 0 ≡ get_or ms i 0 + get_or (figures_of report_lines text) i 0
  pub report : (ms ns : List ℕ) → AllFit ns → length ns ≡ report_lines → after_report (report_text ns) ms ≡ adding 1 ms ns
