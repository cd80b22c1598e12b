-- `is_out_of_order` equals its definition.
use Rattle.table.proofs.Numbers.{order_first, order_later}
use Rattle.table.proofs.frame.is_out_of_order.Goals as goal

pub returns-then-last-eq0 : goal.returns-then-last-eq0
returns-then-last-eq0 c = order_first _ _ c.if-last-eq0.true

pub returns : goal.returns
returns c = order_later _ _ c.if-last-eq0.false
