-- What is counted of a log that is read. No contract of a read says which bytes it brings, so these say that they are those of some log.
use Rattle.std.specs.Prelude.{◌≡◌}
use Rattle.text.specs.String.{Str}
use Rattle.table.specs.Text.{check, table_of}
use Rattle.table.specs.Checked.{Accepted}
use Rattle.request_log.specs.Log.{check_log, log_of}
use Rattle.season_count.specs.Counting.{CountsOf}
use Rattle.season_count.specs.declared.count.Tally.{Tally}
use Rattle.season_count.specs.declared.loaded.Loaded.{Loaded}
use Rattle.season_call.specs.Counted.{CountedLog}

-- a log was read, it is accepted, and its requests were counted on a loaded table
pub record CountedRead (L : Loaded) (tally : Tally) : Type 0 where
  pub log : Str
  pub counted : CountedLog L log tally

-- the table is accepted, a log was read and is accepted, and the counts are those of its requests
pub record CountedOn (table : Str) (tally : Tally) : Type 0 where
  pub accepted : check table ≡ Accepted
  pub log : Str
  pub fine : check_log log ≡ Accepted
  pub counts_are : CountsOf (table_of table) (log_of log) tally
