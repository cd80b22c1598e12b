use borrow.Author.Tests.{eq-eqb, ne_eqb}
use Rattle.text.specs.Test.{◌or◌}
use Rattle.verdict_request.specs.Calls.{bad_mode}
use Rattle.verdict_request.proofs.request.is_bad_mode.Goals as goal

pub returns-then-mode-ne1 : goal.returns-then-mode-ne1
unfolding bad_mode ◌or◌
returns-then-mode-ne1 c = rw (ne_eqb _ 1 c.if-mode-ne1.true)

pub returns-else-mode-ne1 : goal.returns-else-mode-ne1
unfolding bad_mode ◌or◌
returns-else-mode-ne1 c = rw (eq-eqb _ 1 c.if-mode-ne1.false)
