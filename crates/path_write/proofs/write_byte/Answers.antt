-- `write_byte` stores the byte, after a \ if it is a mark.
use native.Mathlib.Omega.{arith}
use lib.ListN.{length-set}
use Rattle.path_write.proofs.Writing.{mark_room, plain_room, mark_wrote, plain_wrote}
use Rattle.path_write.proofs.write_byte.Goals as goal

pub bounds-out-at : goal.bounds-out-at
bounds-out-at c =
    omega (arith, mark_room c.args.out.now c.args.at c.args.b c.requires c.if-b.true)

pub bounds-out-at-then-b : goal.bounds-out-at-then-b
bounds-out-at-then-b c =
    simp length-set (omega (arith, mark_room c.args.out.now c.args.at c.args.b c.requires c.if-b.true))

pub returns-then-b : goal.returns-then-b
returns-then-b c = mark_wrote _ _ _ c.requires c.if-b.true

pub bounds-out-at-2 : goal.bounds-out-at-2
bounds-out-at-2 c =
    omega (arith, plain_room c.args.out.now c.args.at c.args.b c.requires c.if-b.false)

pub returns : goal.returns
returns c = plain_wrote _ _ _ c.requires c.if-b.false
