-- `hand_out` answers and leaves what the definitions say.
use native.Mathlib.Omega.{arith}
use mathlib.Core.Path.{ap}
use Rattle.table.specs.Checked.{checked_as}
use Rattle.readable.proofs.Calling.{made_refused, made_unfit, made_there}
use Rattle.readable.proofs.hand_out.Goals as goal

pub returns-in-Err : goal.returns-in-Err
returns-in-Err c =
    rw c.number.ensures (made_refused _ _ _ c.check_table-c.ensures _ _ (ap checked_as c.in-Err.is))

pub returns-then-out-table : goal.returns-then-out-table
returns-then-out-table c =
    made_unfit _ _ _ c.check_table-c.ensures (ap checked_as c.in_default.is) c.if-out-table.true

pub copy-requires : goal.copy-requires
copy-requires c = omega (arith, c.if-out-table.false)

pub returns : goal.returns
returns c =
    made_there _ _ _ c.check_table-c.ensures (ap checked_as c.in_default.is) c.if-out-table.false _ c.copy.ensures
