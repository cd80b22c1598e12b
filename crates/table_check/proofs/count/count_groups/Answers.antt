-- `count_groups` equals its definition.
use mathlib.Core.Path.{◌∙◌}
use Rattle.std.proofs.lemmas.Result.{err_from_is_err_and}
use Rattle.table_check.proofs.Calls.{look_declined, look_told}
use Rattle.table_check.proofs.count.count_groups.Goals as goal

pub returns-in_err-seen : goal.returns-in_err-seen
returns-in_err-seen c =
    let p = err_from_is_err_and c.from_residual.result c.from_residual.ensures.1 in
    rw (p.1, p.2) (look_declined _ _ _ c.look.ensures _ c.in_err-seen.was)

pub returns : goal.returns
returns c =
    c.count_of.ensures ∙ (look_told _ _ _ c.look.ensures _ c.in_ok-seen.was).count
