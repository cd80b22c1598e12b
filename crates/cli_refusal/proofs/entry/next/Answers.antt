-- `next` answers where the next line begins.
use Rattle.cli_refusal.proofs.Looking.{next_found, next_none}
use Rattle.cli_refusal.proofs.entry.next.Goals as goal

pub returns-then-end-text : goal.returns-then-end-text
returns-then-end-text c =
    next_found _ _ _ c.requires c.find-end.ensures c.if-end-text.true

pub returns-else-end-text : goal.returns-else-end-text
returns-else-end-text c =
    next_none _ _ _ c.requires c.find-end.ensures c.if-end-text.false
