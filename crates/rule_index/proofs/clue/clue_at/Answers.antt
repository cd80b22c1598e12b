use native.Mathlib.Omega.{arith}
use Prim.Native.Nat.{◌+◌, ◌<◌}
use lib.ListN.{get_or}
use Rattle.table_place.proofs.Cursor.{elems_room, elem_room, path_room}
use Rattle.rule_index.proofs.Values.{clue_root, clue_name, clue_given, clue_next, clues_left}
use Rattle.rule_index.proofs.clue.clue_at.Goals as goal

pub bounds-f-at : goal.bounds-f-at
bounds-f-at c =
    path_room (c.args.f.now) (c.args.at) (c.requires.0)

pub overflow_cast-n : goal.overflow_cast-n
overflow_cast-n c =
    omega (arith, c.type_inv.f (c.args.at))

pub returns-then-n-eq0 : goal.returns-then-n-eq0
returns-then-n-eq0 c =
    let z = clue_root (c.args.f.now) (c.args.at) c.if-n-eq0.true in
    (omega (arith, z.0, path_room (c.args.f.now) (c.args.at) (c.requires.0)), z.1)

pub overflow_add-clue : goal.overflow_add-clue
overflow_add-clue c =
    omega (arith, path_room (c.args.f.now) (c.args.at) (c.requires.0), c.well_formed)

pub overflow_add-q : goal.overflow_add-q
overflow_add-q c =
    omega (arith, path_room (c.args.f.now) (c.args.at) (c.requires.0), c.well_formed)

pub loop-left-init : goal.loop-left-init
loop-left-init c =
    let l = c.if-n-eq0.false in
    let r = elems_room (c.args.f.now) (get_or (c.args.f.now) (c.args.at) 0)
    (c.args.at + 1) (omega arith) (c.requires.0) in
    let p : 0 < get_or (c.args.f.now) (c.args.at) 0 = omega arith in (
      c.requires.0,
      (
        omega (arith, (elem_room (c.args.f.now) _ r.0).0),
        clue_name (c.args.f.now) (c.args.at) p,
      ),
      clue_given (c.args.f.now) (c.args.at) p,
    )

pub str_end-a-requires : goal.str_end-a-requires
str_end-a-requires c =
    let r = elems_room _ _ _ c.loop-left-test.true (c.loop-left.invariant.0) in omega (arith, (elem_room _ _ r.0).0)

pub bounds-f-a : goal.bounds-f-a
bounds-f-a c =
    let r = elems_room _ _ _ c.loop-left-test.true (c.loop-left.invariant.0) in rw (c.str_end-a.ensures) (elem_room _ _ r.0).0

pub overflow_cast-k : goal.overflow_cast-k
overflow_cast-k c = omega (arith, c.type_inv.f (c.str_end-a.result))

pub overflow_add-a : goal.overflow_add-a
overflow_add-a c =
    let r = elems_room _ _ _ c.loop-left-test.true (c.loop-left.invariant.0) in
    rw (c.str_end-a.ensures) (omega (arith, (elem_room _ _ r.0).0, c.well_formed))

pub choose_of-clue-requires : goal.choose_of-clue-requires
choose_of-clue-requires c =
    let r = elems_room _ _ _ c.loop-left-test.true (c.loop-left.invariant.0) in
    (rw (c.str_end-a.ensures) (elem_room _ _ r.0).1, c.requires.1, c.requires.2)

pub elem_end-q-requires : goal.elem_end-q-requires
elem_end-q-requires c =
    (elems_room _ _ _ c.loop-left-test.true (c.loop-left.invariant.0)).0

pub loop-left-preserved : goal.loop-left-preserved
loop-left-preserved c =
    let r = elems_room _ _ _ c.loop-left-test.true (c.loop-left.invariant.0) in (
      rw (c.elem_end-q.ensures) r.1,
      clue_next _ _ _ c.loop-left-test.true _ (c.loop-left.invariant.2) _ _ _
          c.str_end-a.ensures (c.loop-left.invariant.1) c.choose_of-clue.ensures,
      clues_left _ _ _ c.loop-left-test.true _ (c.loop-left.invariant.2) _ c.elem_end-q.ensures,
    )

pub returns : goal.returns
returns c = c.loop-left.invariant.1
