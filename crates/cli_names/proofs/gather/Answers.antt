use native.Mathlib.Omega.{arith}
use Rattle.cli_names.proofs.Gathering.{gathering_start, gathering_turn, gathering_done}
use Rattle.cli_names.proofs.gather.Goals as goal

pub loop-i-init : goal.loop-i-init
loop-i-init c = gathering_start _ _ _ _ _ _ c.requires.laid

pub overflow_cast-at : goal.overflow_cast-at
overflow_cast-at c = omega (arith, c.type_inv.starts c.loop-i.i)

pub is_new-wanted-requires : goal.is_new-wanted-requires
is_new-wanted-requires c = (
  c.requires.names.laid c.loop-i.i c.loop-i-test.true,
  record {
    laid = c.loop-i.invariant.laid;
    room = omega (arith, c.loop-i.invariant.few, c.loop-i.invariant.long, c.requires.room, c.loop-i-test.true);
  },
)

pub loop-i-preserved : goal.loop-i-preserved
loop-i-preserved c =
    gathering_turn _ _ _ _ _ _ _ _ _ c.loop-i.invariant c.loop-i-test.true
    c.requires.room (c.requires.names.laid c.loop-i.i
    c.loop-i-test.true) _ c.is_new-wanted.ensures _ _ c.push_where-count.ensures

pub returns : goal.returns
returns c = gathering_done _ _ _ _ _ _ _ _ _ c.loop-i.invariant c.loop-i-test.false
