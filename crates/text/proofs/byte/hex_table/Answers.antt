use Rattle.std.proofs.Common.{arith}
use Rattle.text.proofs.HexTables.{table_start, table_digit, table_digits, table_letter, table_end}
use Rattle.text.proofs.byte.hex_table.Goals as goal

pub loop-b-init : goal.loop-b-init
loop-b-init c = (omega arith, table_start)

pub loop-b-preserved : goal.loop-b-preserved
loop-b-preserved c =
    (omega arith, table_digit _ _ _ _ c.loop-b.invariant.1 (omega arith) c.hex_value.ensures)

pub loop-b-2-init : goal.loop-b-2-init
loop-b-2-init c = (omega arith, table_digits _ _ _ (omega arith) c.loop-b.invariant.1)

pub loop-b-2-preserved : goal.loop-b-2-preserved
loop-b-2-preserved c =
    (omega arith, table_letter _ _ _ _ c.loop-b-2.invariant.1 (omega arith) c.hex_value-in-loop-b-2.ensures)

pub returns : goal.returns
returns c = table_end _ _ (omega arith) c.loop-b-2.invariant.1
