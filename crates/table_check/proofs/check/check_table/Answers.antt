-- `check_table` equals its definition.
use Rattle.table_check.proofs.Calls.{outcome_checked}
use Rattle.table_check.proofs.check.check_table.Goals as goal

pub returns : goal.returns
returns c = outcome_checked _ _ _ c.load.ensures
