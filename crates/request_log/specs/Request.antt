-- A line of a log: the request that it holds, and when it is bad.
use Rattle.std.specs.Prelude.{ℕ, not, eqb}
use Rattle.std.proofs.Math.Option.{Option, none, some, bind}
use Rattle.text.specs.Test.{whether◌then◌else◌}
use Rattle.text.specs.String.{Str}
use Rattle.text.specs.Refusal.{◌when◌else◌, clear}
use Rattle.text.specs.Frame.{Reader, ◌>>=◌, ret, byte, string}
use Rattle.path.specs.Bytes.{path}
use Rattle.path.specs.Refusal.{good_path}
use Rattle.table_line.specs.Lines.{frame}
use Rattle.table.specs.Frame.{whole}
use Rattle.verdict.specs.Verdict.{Request}
use Rattle.verdict_request.specs.Calls.{refusal_or, asked}

-- "mode, S user, S origin, path"
unfoldable pub request_body : Reader Request
request_body = do
  mode ← byte
  user ← string
  origin ← string
  p ← path
  ret (asked user mode origin p)

-- the request of a frame; none where it "isn't so framed"
unfoldable pub framed_request : Str → Option Request
framed_request f = whole f (request_body f 0)

-- 20, 21 and 22 as `request_refusal` has them, with a path for the path text
unfoldable pub framed_refusal : Request → ℕ
framed_refusal q = refusal_or (22 when not (good_path q.path) else clear) q.user q.mode q.origin

unfoldable pub unrefused : Option Request → Option Request
unrefused none = none
unrefused (some q) = whether eqb (framed_refusal q) clear then some q else none

-- the good request of a frame
unfoldable pub good_request : Str → Option Request
good_request f = unrefused (framed_request f)

-- the request of a line, "hexadecimal as in the table"; none where it is bad: "bad is what isn't so framed or gets 20 to 22"
unfoldable pub request_of : Str → Option Request
request_of l = bind (frame l) good_request
