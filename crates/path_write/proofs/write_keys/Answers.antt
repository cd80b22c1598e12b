use native.Mathlib.Omega.{arith}
use mathlib.Core.Path.{◌≡◌, sym}
use Prim.Native.Nat.{◌+◌, ◌-◌}
use Rattle.text.specs.Frame.{times}
use Rattle.text.proofs.Frames.{times_turn, times_unread, times_done}
use Rattle.path.specs.Bytes.{key}
use Rattle.path_frame.specs.Walked.{key_said}
use Rattle.path_read.specs.Text.{key_text}
use Rattle.path_write.proofs.Writing.{writing_start, writing_never, writing_done, writing_room, writing_turn}
use Rattle.path_write.proofs.write_keys.Goals as goal

pub loop-init : goal.loop-init
loop-init c = let e : c.args.count - 0 ≡ c.args.count = omega arith in rw e (writing_start key_text _ _ _ c.requires)

pub returns-in_default : goal.returns-in_default
unfolding key_said
returns-in_default c =
    writing_never _ _ _ _ _ _ _ _ c.loop.invariant
    (times_unread key _ _ _ (omega (arith, c.loop-test.true)) (sym (rw c.in_default.is at c.read_key.ensures)))

pub write_key-requires : goal.write_key-requires
unfolding key_said
write_key-requires c =
    writing_room _ _ _ _ _ _ _ _ c.loop.invariant _ (times ((c.args.count - c.loop.counter) - 1) key c.args.f.now c.in-Some.key.next)
    (times_turn key c.args.f.now c.loop.place.from (c.args.count - c.loop.counter) _ _
    (omega (arith, c.loop-test.true)) (sym (rw c.in-Some.is at c.read_key.ensures)))

pub loop-preserved : goal.loop-preserved
unfolding key_said
loop-preserved c =
    let e : c.args.count - c.loop.counter - 1 ≡ c.args.count - (c.loop.counter + 1) = omega arith in
    rw e at (writing_turn _ _ _ _ _ _ _ _ c.loop.invariant _ _ (times_turn key c.args.f.now c.loop.place.from
    (c.args.count - c.loop.counter) _ _ (omega (arith, c.loop-test.true))
    (sym (rw c.in-Some.is at c.read_key.ensures))) _ _ c.write_key.ensures)

pub returns : goal.returns
returns c =
    let d = writing_done _ _ _ _ _ _ _ _ c.loop.invariant _ (times_done key _ _ _ (omega (arith, c.loop-test.false))) in
    record { next = d.0; wrote = d.1 }
