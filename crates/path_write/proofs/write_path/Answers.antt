-- `write_path` stores a / for the root, and otherwise the elements.
use native.Mathlib.Omega.{arith}
use Rattle.path_write.proofs.Writing.{path_counted, root_room, root_wrote, more_room, more_wrote}
use Rattle.path_write.proofs.write_path.Goals as goal

pub returns-then-f-eq0 : goal.returns-then-f-eq0
returns-then-f-eq0 c =
    path_counted c.args.out.now c.args.f.now c.requires (omega (arith, c.if-f-eq0.true))

pub overflow_cast-count : goal.overflow_cast-count
overflow_cast-count c = omega (arith, c.type_inv.f 0)

pub bounds-out-0 : goal.bounds-out-0
bounds-out-0 c =
    root_room c.args.out.now c.args.f.now c.requires (omega (arith, c.if-f-eq0.false)) c.if-count-eq0.true

pub returns-then-count-eq0 : goal.returns-then-count-eq0
returns-then-count-eq0 c =
    root_wrote c.args.out.now c.args.f.now c.requires (omega (arith, c.if-f-eq0.false)) c.if-count-eq0.true

pub write_elements-requires : goal.write_elements-requires
write_elements-requires c =
    more_room c.args.out.now c.args.f.now c.requires (omega (arith, c.if-f-eq0.false)) c.if-count-eq0.false

pub returns : goal.returns
returns c =
    more_wrote c.args.out.now c.args.f.now c.requires
    (omega (arith, c.if-f-eq0.false)) c.if-count-eq0.false _ _ c.write_elements.ensures.wrote
