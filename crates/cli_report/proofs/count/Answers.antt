-- `count` loads the table once, and lends it to the count of the file.
use Rattle.table_check.proofs.Calls.{outcome_kept}
use Rattle.season_call.proofs.Reporting.{sound}
use Rattle.cli_report.proofs.Counting.{some_counted_on}
use Rattle.cli_report.proofs.count.Goals as goal

pub of-requires : goal.of-requires
of-requires c = sound (outcome_kept _ _ _ c.load.ensures c.in_default.is)

pub returns : goal.returns
returns c = some_counted_on (outcome_kept _ _ _ c.load.ensures c.in_default.is) c.of.result c.of.ensures _ c.count_file.ensures
