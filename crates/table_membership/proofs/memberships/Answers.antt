use native.Mathlib.Omega.{arith}
use Rattle.table_membership.proofs.Sets.{set_start, set_turn, set_end}
use Rattle.table_membership.proofs.memberships.Goals as goal

pub loop-i-init : goal.loop-i-init
loop-i-init c = set_start _ _ _ _ _

pub overflow_cast-at : goal.overflow_cast-at
overflow_cast-at c = omega (arith, c.type_inv.users c.loop-i.i)

pub join-set-requires : goal.join-set-requires
join-set-requires c = (c.requires.owned c.loop-i.i (omega arith), c.requires.listed.laid c.loop-i.i (omega arith))

pub loop-i-preserved : goal.loop-i-preserved
loop-i-preserved c = set_turn _ _ _ _ _ _ _ _ _ (omega arith) c.join-set.ensures c.loop-i.invariant

pub returns : goal.returns
returns c = set_end _ _ _ _ _ _ _ _ (omega arith) c.loop-i.invariant
