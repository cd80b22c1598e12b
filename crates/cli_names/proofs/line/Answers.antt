-- `line` tells what the definition says of the loaded table.
use native.Mathlib.Omega.{arith}
use mathlib.Core.Path.{sym, ◌∙◌}
use Rattle.table_check.proofs.Calls.{outcome_refused, outcome_kept, front_is}
use Rattle.cli_names.specs.Names.{slip}
use Rattle.cli_names.proofs.Users.{slip_refused, slip_is, groups_listed, table_ready, user_short}
use Rattle.cli_names.proofs.line.Goals as goal

pub returns-in_default : goal.returns-in_default
unfolding slip
returns-in_default c =
    rw (← outcome_refused _ _ _ c.load.ensures _ c.in_default.is) c.new.ensures

pub returns-then-is_bad_user : goal.returns-then-is_bad_user
returns-then-is_bad_user c =
    rw (← slip_refused (outcome_kept _ _ _ c.load.ensures c.in-Ok.is) _
    (sym c.is_bad_user.ensures ∙ c.if-is_bad_user.true)) c.new-then-is_bad_user.ensures

pub find-requires : goal.find-requires
find-requires c = rw c.bytes-f.ensures (groups_listed (outcome_kept _ _ _ c.load.ensures c.in-Ok.is))

pub told-requires : goal.told-requires
told-requires c =
    let k = outcome_kept _ _ _ c.load.ensures c.in-Ok.is in
    (rw c.bytes-f.ensures (table_ready k (front_is k)), user_short _ (sym c.is_bad_user.ensures ∙ c.if-is_bad_user.false))

pub returns : goal.returns
returns c =
    let told = rw c.bytes-f.ensures at c.told.ensures in
    rw (slip_is (outcome_kept _ _ _ c.load.ensures c.in-Ok.is) _
    (sym c.is_bad_user.ensures ∙ c.if-is_bad_user.false) _ (rw c.bytes-f.ensures at c.find.ensures)) at told
