use native.Mathlib.Omega.{arith}
use mathlib.Core.Path.{◌≡◌}
use Prim.Native.Nat.{◌+◌, ◌*◌, ◌≤◌, ◌<◌}
use lib.ListN.{length}
use Rattle.table_line.proofs.Digits.{digits_turn, digits_stop, digits_end, decode_start, decode_turn, decode_done, value_fits}
use Rattle.table_line.proofs.decode.Goals as goal

pub loop-k-init : goal.loop-k-init
loop-k-init c =
    let a : c.args.at + 0 ≡ c.args.at = omega arith in
    let b : c.args.from + 2 * 0 ≡ c.args.from = omega arith in
    rw (a, b) (decode_start c.args.text.now _ c.args.from _ c.requires.1)

pub returns-then-high-low : goal.returns-then-high-low
returns-then-high-low c =
    let l : c.args.from + 2 * c.loop-k.k + 1 < length c.args.text.now = omega arith in
    let both = decode_done _ _ _ _ _ _ (omega arith) c.loop-k.invariant
    (digits_stop _ _ _ _ l c.hex_value-high.ensures
    c.hex_value-low.ensures c.if-high-low.true) in record { value = omega (arith, both.0); out_after = both.1 }

pub overflow_mul-out : goal.overflow_mul-out
overflow_mul-out c =
    let v = value_fits _ _ _ _ c.hex_value-high.ensures c.hex_value-low.ensures c.if-high-low.false in omega arith

pub overflow_add-out : goal.overflow_add-out
overflow_add-out c =
    let v = value_fits _ _ _ _ c.hex_value-high.ensures c.hex_value-low.ensures c.if-high-low.false in omega arith

pub loop-k-preserved : goal.loop-k-preserved
loop-k-preserved c =
    let l : c.args.from + 2 * c.loop-k.k + 1 < length c.args.text.now = omega arith in
    let a : c.args.at + (c.loop-k.k + 1) ≡ c.args.at + c.loop-k.k + 1 = omega arith in
    let b : c.args.from + 2 * (c.loop-k.k + 1) ≡ c.args.from + 2 * c.loop-k.k + 2 = omega arith in
    rw (a, b) (decode_turn _ _ _ _ _ _ _ _ c.loop-k.invariant (digits_turn _ _ _ _ l c.hex_value-high.ensures c.hex_value-low.ensures c.if-high-low.false))

pub returns : goal.returns
returns c =
    let l : length c.args.text.now ≤ c.args.from + 2 * c.loop-k.k + 1 = omega arith in
    let both = decode_done _ _ _ _ _ _ (omega arith) c.loop-k.invariant (digits_end _ _ l) in record { value = omega (arith, both.0); out_after = both.1 }
