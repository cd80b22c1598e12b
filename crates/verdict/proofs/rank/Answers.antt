use native.Mathlib.Omega.{arith}
use Rattle.verdict.specs.Rank.{rank_by}
use Rattle.verdict.proofs.Order.{unless_small}
use Rattle.verdict.proofs.rank.Goals as goal

pub overflow_add-result-2 : goal.overflow_add-result-2
overflow_add-result-2 c = rw c.one_unless-user.ensures (omega (arith, unless_small c.args.group))

pub overflow_mul-result-3 : goal.overflow_mul-result-3
overflow_mul-result-3 c = rw c.one_unless-user.ensures (omega (arith, unless_small c.args.group))

pub overflow_add-result-3 : goal.overflow_add-result-3
overflow_add-result-3 c =
    rw (c.one_unless-user.ensures, c.one_unless-deny.ensures)
    (omega (arith, unless_small c.args.group, unless_small c.args.permit))

pub returns : goal.returns
unfolding rank_by
returns c = rw (c.one_unless-user.ensures, c.one_unless-deny.ensures)
