-- `count_of` equals its definition.
use native.Mathlib.Omega.{arith}
use lib.Count.{ones-le, trailing_le}
use Rattle.limits.specs.Limits.{max_groups}
use Rattle.table_membership.proofs.Counting.{count_bad, count_none, count_some}
use Rattle.table_membership.proofs.count_of.Goals as goal

pub returns-then-is_bad_user : goal.returns-then-is_bad_user
returns-then-is_bad_user c = rw c.at.ensures (count_bad _ _ _ c.is_bad_user.ensures c.if-is_bad_user.true)

pub returns-then-count-eq0 : goal.returns-then-count-eq0
returns-then-count-eq0 c = count_none _ _ _ c.is_bad_user.ensures c.if-is_bad_user.false c.if-count-eq0.true

pub overflow_cast-result : goal.overflow_cast-result
overflow_cast-result c =
    omega (arith, ones-le max_groups c.args.set (omega (arith, c.well_formed)))

pub overflow_cast-result-2 : goal.overflow_cast-result-2
overflow_cast-result-2 c =
    omega (arith, trailing_le max_groups c.args.set)

pub returns : goal.returns
returns c = count_some _ _ _ c.is_bad_user.ensures c.if-is_bad_user.false c.if-count-eq0.false
