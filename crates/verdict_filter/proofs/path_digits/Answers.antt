use mathlib.Core.Path.{◌≡◌, refl, ap}
use mathlib.Core.List.{◌∷◌}
use native.Mathlib.Omega.{arith}
use lib.ListN.{length}
use Rattle.table_place.proofs.Cursor.{length_elems}
use Rattle.verdict_compare.specs.Place.{element, elements}
use Rattle.verdict_filter.proofs.Laws.{fresh}
use Rattle.verdict_filter.proofs.Turns.{elems_turn, elems_end_lem}
use Rattle.verdict_filter.proofs.path_digits.Goals as goal

pub loop-e-init : goal.loop-e-init
loop-e-init c = rw c.into_iter-e-iterator.ensures.into_iter_gives (refl, fresh _ _ c.empty-x.ensures)

pub elem_digits-requires : goal.elem_digits-requires
elem_digits-requires c =
    let own = c.args.own in
    let n = length_elems own.bytes.now own.count own.at in
    let l : length (elements c.loop-e.e-iterator) ≡ length (element c.in-Some.e ∷ elements c.next.new.self) = ap length c.in-Some.ensures.steps in
    (c.requires.0, omega (arith, c.requires.1, c.loop-e.invariant.0))

pub overflow_add-depth : goal.overflow_add-depth
overflow_add-depth c =
    let own = c.args.own in
    let n = length_elems own.bytes.now own.count own.at in
    let l : length (elements c.loop-e.e-iterator) ≡ length (element c.in-Some.e ∷ elements c.next.new.self) = ap length c.in-Some.ensures.steps in
    omega (arith, c.requires.1, c.loop-e.invariant.0)

pub loop-e-preserved : goal.loop-e-preserved
loop-e-preserved c =
    let l : length (elements c.loop-e.e-iterator) ≡ length (element c.in-Some.e ∷ elements c.next.new.self) = ap length c.in-Some.ensures.steps in (
      omega (arith, c.loop-e.invariant.0),
      rw c.unite-x.ensures (elems_turn c.args.s c.loop-e.depth _ _ _ c.loop-e.x _ c.elem_digits.ensures
          (rw c.in-Some.ensures.steps at c.loop-e.invariant.1)),
    )

pub returns : goal.returns
returns c = elems_end_lem c.args.s c.loop-e.depth _ _ (rw c.in-None.ensures.steps.0 at c.loop-e.invariant.1)
