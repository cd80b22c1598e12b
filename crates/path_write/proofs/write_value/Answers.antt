use Rattle.text.proofs.Filling.{fill_start}
use Rattle.path_write.proofs.Writing.{value_room, value_turn, value_done}
use Rattle.path_write.proofs.write_value.Goals as goal

pub loop-b-init : goal.loop-b-init
loop-b-init c = fill_start _ _ _ c.requires

pub write_byte-p-requires : goal.write_byte-p-requires
write_byte-p-requires c =
    value_room _ _ _ _ _ _ _ c.loop-b.invariant c.loop-b-test.true

pub loop-b-preserved : goal.loop-b-preserved
loop-b-preserved c =
    value_turn _ _ _ _ _ _ _ c.loop-b.invariant _ _ c.loop-b-test.true c.write_byte-p.ensures

pub returns : goal.returns
returns c = value_done _ _ _ _ _ _ _ c.loop-b.invariant c.loop-b-test.false
