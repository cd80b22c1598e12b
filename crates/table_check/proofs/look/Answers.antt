-- `look` tells what the loaded table tells.
use mathlib.Core.Path.{sym}
use Rattle.std.proofs.lemmas.Result.{err_from_is_err_and}
use Rattle.table_check.specs.Look.{Looked}
use Rattle.table_check.proofs.Calls.{outcome_refused, outcome_kept, count_requires, told}
use Rattle.table_check.proofs.look.Goals as goal

pub returns-in_err-load : goal.returns-in_err-load
unfolding Looked
returns-in_err-load c =
    let p = err_from_is_err_and c.from_residual.result c.from_residual.ensures.1 in
    rw (p.1, p.2) (sym (outcome_refused _ _ _ c.load.ensures _ c.in_err-load.was))

pub memberships-set-requires : goal.memberships-set-requires
memberships-set-requires c =
    rw c.bytes.ensures (count_requires (outcome_kept _ _ _ c.load.ensures c.in_ok-load.was))

pub returns : goal.returns
unfolding Looked
returns c =
    rw (c.memberships-set.ensures, c.bytes.ensures) (told (outcome_kept _ _ _ c.load.ensures c.in_ok-load.was) _)
