use native.Mathlib.Omega.{arith}
use mathlib.Core.Path.{◌≡◌}
use Prim.Native.Nat.{◌+◌, ◌-◌}
use Rattle.path_read.specs.Text.{elem_text}
use Rattle.path_write.proofs.Writing.{writing_start, elems_room, elems_turn, elems_done}
use Rattle.path_write.proofs.write_elements.Goals as goal

pub loop-init : goal.loop-init
loop-init c = let e : c.args.count - 0 ≡ c.args.count = omega arith in rw e (writing_start elem_text _ _ _ c.requires)

pub write_element-place-requires : goal.write_element-place-requires
write_element-place-requires c =
    elems_room _ _ _ _ c.args.f.now c.loop.place.from _ _ (c.args.count - c.loop.counter)
    c.loop.invariant (omega (arith, c.loop-test.true))

pub loop-preserved : goal.loop-preserved
loop-preserved c =
    let e : c.args.count - c.loop.counter - 1 ≡ c.args.count - (c.loop.counter + 1) = omega arith in
    rw e at (elems_turn _ _ _ _ c.args.f.now c.loop.place.from _ _ (c.args.count - c.loop.counter) c.loop.invariant
    (omega (arith, c.loop-test.true)) _ _ c.write_element-place.ensures)

pub returns : goal.returns
returns c =
    let d = elems_done _ _ _ _ c.args.f.now c.loop.place.from _ _ (c.args.count - c.loop.counter) c.loop.invariant (omega (arith, c.loop-test.false)) in
    record { next = d.0; wrote = d.1 }
