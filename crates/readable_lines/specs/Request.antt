-- The readable form of a good request in a log, and the frame of a readable request.
use Rattle.std.proofs.Math.Option.{Option, none, some, bind}
use Rattle.text.specs.Test.{whether◌then◌else◌, absent}
use Rattle.text.specs.String.{Str}
use Rattle.request_log.specs.Request.{good_request}
use Rattle.readable_parts.specs.Parts.{shown, packed}
use Rattle.readable_lines.specs.Form.{parts, request_form, shown_by, packed_by}

-- f, where it holds a good request
unfoldable pub good : Str → Option Str
good f = whether absent (good_request f) then none else some f

unfoldable pub shown_request : Str → Option Str
shown_request f = bind (good f) (shown_by (parts shown request_form) 0)

unfoldable pub packed_request : Str → Option Str
packed_request s = bind (packed_by (parts packed request_form) s) good
