-- `is_good` is yes exactly where a frame holds a good request.
use mathlib.Core.Path.{sym, ◌∙◌}
use Rattle.refusal.proofs.Numbers.{ok_clear, err_not_clear}
use Rattle.readable_lines.proofs.Requests.{good_unread, good_refused, good_by_path}
use Rattle.readable_lines.proofs.request.is_good.Goals as goal

pub returns-in_default : goal.returns-in_default
returns-in_default c = good_unread _ c.read_heading.ensures c.in_default.is

pub returns-then-is_ok : goal.returns-then-is_ok
returns-then-is_ok c =
    c.is_path_from.ensures ∙ good_by_path _ c.read_heading.ensures c.in-Some.is (ok_clear _ (sym c.is_ok.ensures.value ∙ c.if-is_ok.true))

pub returns-else-is_ok : goal.returns-else-is_ok
returns-else-is_ok c =
    c.if-is_ok.false ∙ good_refused _ c.read_heading.ensures c.in-Some.is (err_not_clear _ (sym c.is_ok.ensures.value ∙ c.if-is_ok.false))
