-- What the season report answers, and what it leaves in the lent buffer.
use Rattle.std.specs.Prelude.{List, ℕ, leb, length}
use Rattle.text.specs.Test.{whether◌then◌else◌}
use Rattle.text.specs.String.{Str}
use Rattle.text.specs.Fill.{put}
use Rattle.table.specs.Text.{check, table_of}
use Rattle.table.specs.Checked.{Checked}
use Rattle.table.specs.Checked as checked
use Rattle.request_log.specs.Log.{check_log, log_of}
use Rattle.season.specs.Report.{report}
use Rattle.season.specs.declared.Reported.{Reported}
use Rattle.season.specs.declared.Reported.TheVariants.{Length, Refused}

-- "Table faults come first; then the earliest log line .."
unfoldable pub first_fault : Checked → Checked → Checked
first_fault (checked.Refused n l) log = checked.Refused n l
first_fault checked.Accepted log = log

unfoldable pub fault : Str → Str → Checked
fault table log = first_fault (check table) (check_log log)

-- the report that an accepted table and an accepted log give
unfoldable pub report_of : Str → Str → Str
report_of table log = report (table_of table) (log_of log)

-- 23: the report "doesn't fit the lent buffer"
unfoldable pub answered : Checked → Str → List ℕ → Reported
answered (checked.Refused n l) text out = Refused n l
answered checked.Accepted text out = whether leb (length text) (length out) then Length (length text) else Refused 23 0

unfoldable pub stored : Checked → Str → List ℕ → List ℕ
stored (checked.Refused n l) text out = out
stored checked.Accepted text out = whether leb (length text) (length out) then put out 0 text else out

-- the call
unfoldable pub season_answer : Str → Str → List ℕ → Reported
season_answer table log out = answered (fault table log) (report_of table log) out

unfoldable pub season_lent : Str → Str → List ℕ → List ℕ
season_lent table log out = stored (fault table log) (report_of table log) out
