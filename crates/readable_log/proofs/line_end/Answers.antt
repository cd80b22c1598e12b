-- `line_end` is behind the LF, or at the end of the text.
use Rattle.readable_log.proofs.Cutting.{ends_after, ends_open}
use Rattle.readable_log.proofs.line_end.Goals as goal

pub returns-then-stop-text : goal.returns-then-stop-text
returns-then-stop-text c =
    ends_after _ _ c.requires _ c.find-stop.ensures c.if-stop-text.true

pub returns-else-stop-text : goal.returns-else-stop-text
returns-else-stop-text c =
    ends_open _ _ c.requires _ c.find-stop.ensures c.if-stop-text.false
