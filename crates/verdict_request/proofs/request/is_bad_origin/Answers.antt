use Rattle.verdict_request.proofs.Asked.{origin_long, origin_short}
use Rattle.verdict_request.proofs.request.is_bad_origin.Goals as goal

pub returns-then-origin-gt-MAX_SHORT_STRING : goal.returns-then-origin-gt-MAX_SHORT_STRING
returns-then-origin-gt-MAX_SHORT_STRING c = origin_long _ c.if-origin-gt-MAX_SHORT_STRING.true

pub returns-else-origin-gt-MAX_SHORT_STRING : goal.returns-else-origin-gt-MAX_SHORT_STRING
returns-else-origin-gt-MAX_SHORT_STRING c = origin_short _ c.if-origin-gt-MAX_SHORT_STRING.false _ c.all_print.ensures
