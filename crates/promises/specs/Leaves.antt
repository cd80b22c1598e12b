-- What a call that stores is lent and leaves, in the terms of the pages PathReturn, Season and Rotation: what these say of `lent`, `season_lent` and `leaves`
-- is said of what the exported functions leave.
use Rattle.std.specs.Prelude.{◌≡◌}
use Rattle.text.specs.String.{Str}
use Rattle.path_read.specs.Calls.{bytes_for, text_for, lent}
use Rattle.season.specs.Calls.{season_lent}
use Rattle.rotation.specs.Machine.{Call, Start, Upload, Finalize, Close, Lent, leaves}
use Rattle.rotation_upload.specs.Offered.{offered_check}
use Rattle.burgee.specs.Calls.{Start as start, Upload as upload, Finalize as finalize, Close as close}
use Rattle.burgee.specs.Calls.{PublicCall, PathRead, PathWrite, SeasonReport, buffer, held, before, after}

-- a call of the rotation on what is lent
abbrev pub publicly : Call → Lent → PublicCall
publicly Start l = start l.state l.store
publicly (Upload text) l = upload l.state l.store text
publicly Finalize l = finalize l.state l.store
publicly Close l = close l.state l.store

pub record Leaves : Type 0 where
  pub read_before : (text out : Str) → before (PathRead text out) ≡ buffer out
  pub read_after : (text out : Str) → after (PathRead text out) ≡ buffer (lent out (bytes_for text))
  pub write_before : (bytes out : Str) → before (PathWrite bytes out) ≡ buffer out
  pub write_after : (bytes out : Str) → after (PathWrite bytes out) ≡ buffer (lent out (text_for bytes))
  pub report_before : (table log out : Str) → before (SeasonReport table log out) ≡ buffer out
  pub report_after : (table log out : Str) → after (SeasonReport table log out) ≡ buffer (season_lent table log out)
  pub step_before : (c : Call) (l : Lent) → before (publicly c l) ≡ held l.state l.store
  pub step_after : (c : Call) (l : Lent) → after (publicly c l) ≡ held (leaves offered_check c l).state (leaves offered_check c l).store
