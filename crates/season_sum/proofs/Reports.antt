-- A report added to sums.
use Prim.Native.Nat.{ℕ, zero, suc, ◌+◌}
use native.Mathlib.Omega.{arith}
use Rattle.std.proofs.Common.{◌≡◌, ℕ, true, false, Result, Err, IsErrAnd, refl, ap, ◌∙◌, arith}
use Rattle.std.proofs.lemmas.Result.{err_from_is_err_and}
use Rattle.std.specs.Prelude.{Result, Err}
use mathlib.Core.Path.{◌≡◌, refl, sym, ap, ◌∙◌}
use mathlib.Core.List.{List, [], ◌∷◌, append-nil}
use mathlib.Core.Option.{Option, none, some}
use lib.ListN.{length, drop_of_length-le}
use Rattle.limits.specs.Sizes.{report_lines}
use Rattle.text.specs.Test.{whether◌then◌else◌}
use Rattle.text.specs.String.{Str}
use mathlib.Core.Bool.{Bool, true, false}
use Rattle.text.specs.Fill.{put}
use Rattle.text.proofs.Filling.{put_length}
use Rattle.season_sum.specs.Reading.{fits, figure_of, onward, reading, figures_of}
use Rattle.season_sum.specs.Adding.{adding, sums_of, where_good, after_report, sums_after}
use Rattle.season_sum.specs.Outcome.{Outcome, refused_as}
use Rattle.season_sum.specs.declared.BadReport.{BadReport}
use Rattle.season_sum.specs.declared.BadReport.TheVariants as bad
use Rattle.season_sum.specs.Outcome.{Good, NoFigure, LineCount, TooLarge}
use Rattle.season_sum.proofs.Lines.{few}

-- ---- a report that reads has all its figures

whole_more : (n l : ℕ) (f : Option (ℕ × Str)) → ((t : Str) → reading n (l + 1) t ≡ Good → length (figures_of n t) ≡ n)
    → onward (NoFigure l) f (λ m t. reading n (l + 1) t) ≡ Good → length (onward [] f (λ m t. m ∷ figures_of n t)) ≡ suc n
unfolding onward
whole_more n l none k e = let z : ◌≡◌ {A = ℕ} 0 1 = cc in absurd (omega arith)
whole_more n l (some p) k e = omega (arith, k p.1 e)

pub whole : (n l : ℕ) (s : Str) → reading n l s ≡ Good → length (figures_of n s) ≡ n
unfolding reading figures_of
whole zero l s e = refl
whole (suc n) l [] e = let z : ◌≡◌ {A = ℕ} 0 1 = cc in absurd (omega arith)
whole (suc n) l (b ∷ s) e = whole_more n l (figure_of (b ∷ s)) (whole n (l + 1)) e

put_all : (d s : List ℕ) → length s ≡ length d → put d 0 s ≡ s
unfolding put
put_all d s h = rw (drop_of_length-le d {i = 0 + length s} (omega arith)) (append-nil s)

-- ---- the report added

module _ (text : Str) (zeros figures : List ℕ) (long : length zeros ≡ report_lines) (read : figures ≡ put zeros 0 (figures_of report_lines text)) where
  pub report_long : length figures ≡ report_lines
  report_long = rw read (put_length zeros 0 _ (omega (arith, few report_lines text)) ∙ long)

  module _ (sums : List ℕ) where
    pub report_added : Good ≡ reading report_lines 1 text → (o : Outcome) (out : List ℕ) → (o ≡ adding 1 sums figures) × (out ≡ sums_of sums figures)
        → (o ≡ after_report text sums) × (out ≡ sums_after text sums)
    unfolding after_report sums_after where_good
    report_added g o out a =
        let h : reading report_lines 1 text ≡ Good = sym g in
        let f : figures ≡ figures_of report_lines text = read ∙ put_all zeros (figures_of report_lines text) (whole report_lines 1 text h ∙ sym long) in
        (rw h (rw (← f) a.0), rw h (rw (← f) a.1))

    pub report_refused : (b : BadReport) → refused_as b ≡ reading report_lines 1 text → (refused_as b ≡ after_report text sums) × (sums ≡ sums_after text sums)
    unfolding after_report sums_after where_good
    report_refused b e = rw (← e) (go b)
      where
        go : (b : BadReport) → (refused_as b ≡ where_good (refused_as b) (adding 1 sums (figures_of report_lines text)) (λ o. o))
            × (sums ≡ where_good (refused_as b) (sums_of sums (figures_of report_lines text)) (λ o. sums))
        go (bad.NoFigure l) = (refl, refl)
        go (bad.LineCount l) = (refl, refl)
        go (bad.TooLarge l) = (refl, refl)

-- what `?` hands out
pub err_is : {T E : Type 0} (r : Result T E) (e : E) → IsErrAnd r (λ x. x ≡ e) → r ≡ Err e
err_is r e h = let p = err_from_is_err_and r h in p.1 ∙ ap Err p.2

-- ---- as many sums as before

sums_long : (ms ns : List ℕ) → length (sums_of ms ns) ≡ length ms
unfolding sums_of whether◌then◌else◌
sums_long [] ns = refl
sums_long (m ∷ ms) [] = refl
sums_long (m ∷ ms) (n ∷ ns) = go (fits (m + n)) (sums_long ms ns)
  where
    go : (b : Bool) → length (sums_of ms ns) ≡ length ms → length (whether b then (m + n) ∷ sums_of ms ns else m ∷ ms) ≡ length (m ∷ ms)
    go true e = ap suc e
    go false e = refl

pub sums_after_long : (text : Str) (ms : List ℕ) → length (sums_after text ms) ≡ length ms
unfolding sums_after where_good
sums_after_long text ms = go (reading report_lines 1 text)
  where
    go : (o : Outcome) → length (where_good o (sums_of ms (figures_of report_lines text)) (λ r. ms)) ≡ length ms
    go Good = sums_long ms (figures_of report_lines text)
    go (NoFigure l) = refl
    go (LineCount l) = refl
    go (TooLarge l) = refl
