-- A request by path bytes is the request by the path text that they spell.
use mathlib.Core.Path.{◌≡◌}
use mathlib.Core.Bool.{true}
use Rattle.text.specs.Test.{absent, or_nothing}
use Rattle.path.specs.Refusal.{good_path}
use Rattle.path_read.specs.Text.{path_text}
use Rattle.path_read.proofs.RoundTrip.{good_text}
use Rattle.verdict.specs.Verdict.{Request}
use Rattle.verdict_request.specs.Calls.{request_refusal, request}
use Rattle.request_log.specs.Request.{framed_refusal}

module _ (q : Request) (g : good_path q.path ≡ true) where
  pub same_request : request q.user q.mode q.origin (path_text q.path) ≡ q
  unfolding request or_nothing
  same_request = rw (good_text q.path g)

  pub same_number : request_refusal q.user q.mode q.origin (path_text q.path) ≡ framed_refusal q
  unfolding request_refusal framed_refusal absent
  same_number = rw (good_text q.path g, g)
