-- `is_bad_user` equals its definition.
use Rattle.table.proofs.Users.{user_unsized, user_sized}
use Rattle.table.proofs.is_bad_user.Goals as goal

pub returns-then-is_unsized : goal.returns-then-is_unsized
returns-then-is_unsized c = user_unsized _ _ c.is_unsized.ensures c.if-is_unsized.true

pub returns : goal.returns
returns c = user_sized _ _ c.is_unsized.ensures c.if-is_unsized.false _ c.all_print.ensures
