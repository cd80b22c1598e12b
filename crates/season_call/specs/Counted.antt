-- A whole log that is counted.
use Rattle.std.specs.Prelude.{◌≡◌}
use Rattle.text.specs.String.{Str}
use Rattle.table.specs.Table.{Table}
use Rattle.table.specs.Checked as checked
use Rattle.request_log.specs.Log.{check_log, log_of}
use Rattle.season_count.specs.Loaded.{Is}
use Rattle.season_count.specs.Counting.{CountsOf}
use Rattle.season_count.specs.declared.count.Tally.{Tally}
use Rattle.season_count.specs.declared.loaded.Loaded.{Loaded}

-- the log is accepted, and the counts are those of its requests
pub record CountedLog (L : Loaded) (log : Str) (tally : Tally) : Type 0 where
  pub accepted : check_log log ≡ checked.Accepted
  pub counts_are : (t : Table) → Is L t → CountsOf t (log_of log) tally
