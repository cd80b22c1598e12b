use Prim.Native.Nat.{ℕ}
use mathlib.Core.Path.{sym, ap, ◌∙◌}
use lib.ListN.{length-replicate}
use Rattle.limits.specs.Sizes.{report_lines}
use Rattle.season_sum.specs.Outcome.{outcome_of}
use Rattle.season_sum.proofs.Reports.{err_is, report_added, report_refused}
use Rattle.season_sum.proofs.adding.add_report.Goals as goal

pub returns-in_err-read : goal.returns-in_err-read
returns-in_err-read c =
    rw (err_is c.from_residual.result _ c.from_residual.ensures.1) (report_refused _ _ _ (length-replicate {A = ℕ} report_lines 0) c.read.ensures.1 _ _
    (sym (ap outcome_of c.in_err-read.was) ∙ c.read.ensures.0))

pub returns : goal.returns
returns c =
    report_added _ _ _ (length-replicate {A = ℕ} report_lines 0) c.read.ensures.1 _
    (sym (ap outcome_of c.in_ok-read.was) ∙ c.read.ensures.0) _ _ c.add.ensures
