-- The laws of reports and their sums.
use Prim.Native.Nat.{ℕ, zero, suc, ◌+◌, ◌<◌}
use native.Mathlib.Omega.{arith}
use mathlib.Core.Path.{◌≡◌, refl, sym, ap, ◌∙◌}
use mathlib.Core.Bool.{true, false}
use mathlib.Core.List.Memᴰ
use mathlib.Core.List.{List, [], ◌∷◌, ◌++◌}
use mathlib.Core.Option.{Option, none, some}
use lib.ListN.{length, get_or, length-append}
use Rattle.limits.specs.Sizes.{report_lines}
use Rattle.text.specs.Test.{whether◌then◌else◌}
use Rattle.text.specs.String.{Str, joined}
use Rattle.text.proofs.Tests.{by}
use Rattle.season.specs.Report.{figure_line}
use Rattle.season_sum.specs.Figures.{report_text}
use Rattle.season_sum.specs.Reading.{fits, figure_of, onward, reading, figures_of}
use Rattle.season_sum.specs.Adding.{adding, sums_of, where_good, after_report, sums_after}
use Rattle.season_sum.specs.Laws.{AllFit, ReadsBack, OnlyReports, AddsUp}
use Rattle.season_sum.specs.Outcome.{Outcome}
use Rattle.season_sum.specs.Outcome.{Good, NoFigure, LineCount, TooLarge}
use Rattle.season_sum.proofs.Lines.{reading_some}
use Rattle.season_sum.proofs.Spelled.{line_read, line_only}
use Rattle.season_sum.proofs.Reports.{whole}

-- ---- reading back

line_long : (n : ℕ) (s : Str) → 0 < length (figure_line n ++ s)
unfolding figure_line
line_long n s = simp length-append (omega arith)

good_from : (ns : List ℕ) → AllFit ns → (l : ℕ) → reading (length ns) l (report_text ns) ≡ Good
unfolding report_text joined reading onward
good_from [] f l = refl
good_from (n ∷ ns) f l =
    rw (reading_some (length ns) l (figure_line n ++ joined figure_line ns) (line_long n (joined figure_line ns)), line_read n (joined figure_line ns) (f n (Memᴰ.head refl)))
    (good_from ns (λ m h. f m (Memᴰ.tail h)) (l + 1))

back_from : (ns : List ℕ) → AllFit ns → figures_of (length ns) (report_text ns) ≡ ns
unfolding report_text joined figures_of onward
back_from [] f = refl
back_from (n ∷ ns) f = rw (line_read n (joined figure_line ns) (f n (Memᴰ.head refl))) (ap (λ (s : List ℕ). n ∷ s) (back_from ns (λ m h. f m (Memᴰ.tail h))))

pub reads_back : ReadsBack
reads_back = record {
  good = λ ns f e. rw e at (good_from ns f 1);
  back = λ ns f e. rw e at (back_from ns f);
}

-- ---- only reports read

only_step : (n l : ℕ) (s : Str) (f : Option (ℕ × Str)) → f ≡ figure_of s → ((t : Str) → reading n (l + 1) t ≡ Good → t ≡ report_text (figures_of n t))
    → onward (NoFigure l) f (λ m t. reading n (l + 1) t) ≡ Good → s ≡ report_text (onward [] f (λ m t. m ∷ figures_of n t))
unfolding onward report_text joined
only_step n l s none e f g = let z : ◌≡◌ {A = ℕ} 0 1 = cc in absurd (omega arith)
only_step n l s (some p) e f g = line_only s p.0 p.1 (sym e) ∙ ap (λ (t : Str). figure_line p.0 ++ t) (f p.1 g)

only_from : (n l : ℕ) (s : Str) → reading n l s ≡ Good → s ≡ report_text (figures_of n s)
unfolding reading figures_of report_text joined
only_from zero l [] e = refl
only_from zero l (b ∷ s) e = let z : ◌≡◌ {A = ℕ} 0 1 = cc in absurd (omega arith)
only_from (suc n) l [] e = let z : ◌≡◌ {A = ℕ} 0 1 = cc in absurd (omega arith)
only_from (suc n) l (b ∷ s) e = only_step n l (b ∷ s) (figure_of (b ∷ s)) refl (only_from n (l + 1)) e

pub only_reports : OnlyReports
only_reports = record { report = only_from report_lines 1; whole = whole report_lines 1 }

-- ---- the sums

sums_step : (l m n : ℕ) (ms ns : List ℕ) → (adding (l + 1) ms ns ≡ Good → (i : ℕ) → get_or (sums_of ms ns) i 0 ≡ get_or ms i 0 + get_or ns i 0)
    → adding l (m ∷ ms) (n ∷ ns) ≡ Good → (i : ℕ) → get_or (sums_of (m ∷ ms) (n ∷ ns)) i 0 ≡ get_or (m ∷ ms) i 0 + get_or (n ∷ ns) i 0
unfolding adding sums_of whether◌then◌else◌
sums_step l m n ms ns f e i = by (fits (m + n)) on off
  where
    on : fits (m + n) ≡ true → get_or (sums_of (m ∷ ms) (n ∷ ns)) i 0 ≡ get_or (m ∷ ms) i 0 + get_or (n ∷ ns) i 0
    on h = rw h (go i)
      where
        go : (i : ℕ) → get_or ((m + n) ∷ sums_of ms ns) i 0 ≡ get_or (m ∷ ms) i 0 + get_or (n ∷ ns) i 0
        go zero = refl
        go (suc i) = f (rw h at e) i

    off : fits (m + n) ≡ false → get_or (sums_of (m ∷ ms) (n ∷ ns)) i 0 ≡ get_or (m ∷ ms) i 0 + get_or (n ∷ ns) i 0
    off h = let d : TooLarge l ≡ Good = rw h at e in let z : ◌≡◌ {A = ℕ} 0 1 = cc in absurd (omega arith)

sums_are : (l : ℕ) (ms ns : List ℕ) → length ms ≡ length ns → adding l ms ns ≡ Good → (i : ℕ) → get_or (sums_of ms ns) i 0 ≡ get_or ms i 0 + get_or ns i 0
unfolding sums_of
sums_are l [] [] h e i = refl
sums_are l [] (n ∷ ns) h e i = absurd (omega arith)
sums_are l (m ∷ ms) [] h e i = absurd (omega arith)
sums_are l (m ∷ ms) (n ∷ ns) h e i = sums_step l m n ms ns (sums_are (l + 1) ms ns (omega arith)) e i

both_good : (o a : Outcome) → where_good o a (λ (r : Outcome). r) ≡ Good → (o ≡ Good) × (a ≡ Good)
unfolding where_good
both_good Good a e = (refl, e)
both_good (NoFigure l) a e = let z : ◌≡◌ {A = ℕ} 0 1 = cc in absurd (omega arith)
both_good (LineCount l) a e = let z : ◌≡◌ {A = ℕ} 0 1 = cc in absurd (omega arith)
both_good (TooLarge l) a e = let z : ◌≡◌ {A = ℕ} 0 1 = cc in absurd (omega arith)

report_sums : (text : Str) (ms : List ℕ) → length ms ≡ report_lines → after_report text ms ≡ Good
    → (i : ℕ) → get_or (sums_after text ms) i 0 ≡ get_or ms i 0 + get_or (figures_of report_lines text) i 0
unfolding after_report sums_after where_good
report_sums text ms h e i =
    let b = both_good (reading report_lines 1 text) (adding 1 ms (figures_of report_lines text)) e in
    rw b.0 (sums_are 1 ms (figures_of report_lines text) (h ∙ sym (whole report_lines 1 text b.0)) b.1 i)

report_adds : (ms ns : List ℕ) → AllFit ns → length ns ≡ report_lines → after_report (report_text ns) ms ≡ adding 1 ms ns
unfolding after_report where_good
report_adds ms ns f e = rw (reads_back.good ns f e, reads_back.back ns f e)

pub adds_up : AddsUp
adds_up = record { sums = report_sums; report = report_adds }
