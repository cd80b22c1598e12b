use native.Mathlib.Omega.{arith}
use Rattle.readable_parts.proofs.Digits.{pair_room, second_room, pair_turn, hex_done, hex_start}
use Rattle.readable_parts.proofs.hex.write_hex.Goals as goal

pub loop-b-init : goal.loop-b-init
loop-b-init c = hex_start _ _ _ c.requires

pub hex_digit-requires : goal.hex_digit-requires
hex_digit-requires c = omega (arith, c.type_inv.f c.loop-b.b-index)

pub bounds-out-p : goal.bounds-out-p
bounds-out-p c =
    pair_room _ _ _ _ _ _ _ c.loop-b.invariant c.loop-b-test.true _ 0 c.hex_digit.ensures

pub bounds-out-p-in-loop-b : goal.bounds-out-p-in-loop-b
bounds-out-p-in-loop-b c =
    second_room _ _ _ _ _ _ _ c.loop-b.invariant c.loop-b-test.true _ _ c.hex_digit.ensures c.hex_digit-in-loop-b.ensures

pub loop-b-preserved : goal.loop-b-preserved
loop-b-preserved c =
    pair_turn _ _ _ _ _ _ _ c.loop-b.invariant c.loop-b-test.true _ _ c.hex_digit.ensures c.hex_digit-in-loop-b.ensures

pub returns : goal.returns
returns c = hex_done _ _ _ _ _ _ _ c.loop-b.invariant c.loop-b-test.false
