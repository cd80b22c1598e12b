use mathlib.Core.Path.{◌∙◌}
use native.Mathlib.Omega.{arith}
use Rattle.verdict_compare.proofs.Steps.{ended, starts, there, split, fewer}
use Rattle.verdict_filter.proofs.Laws.{fresh}
use Rattle.verdict_filter.proofs.Turns.{beside_turn, beside_rest, beside_end}
use Rattle.verdict_filter.proofs.beyond.Goals as goal

pub loop-e-init : goal.loop-e-init
loop-e-init c = (omega arith, fresh _ _ c.empty-x.ensures)

pub path_digits-requires : goal.path_digits-requires
path_digits-requires c = (c.requires.0, omega (arith, c.requires.1, c.loop-e.invariant.0))

pub returns-in_default-first : goal.returns-in_default-first
returns-in_default-first c =
    let t = there c.loop-e.own _ c.in-Some.ensures in
    c.unite.ensures
    ∙ beside_rest c.args.s c.loop-e.d _ _ _ c.loop-e.x _ (rw t.1 at c.path_digits.ensures)
    (rw (t.1, ended c.loop-e.other c.in_default-first.ensures) at c.loop-e.invariant.1)

pub keys_digits-requires : goal.keys_digits-requires
keys_digits-requires c =
    let z = starts c.loop-e.own _ c.in-Some.ensures in (c.requires.0, omega (arith, c.requires.1, c.loop-e.invariant.0))

pub overflow_add-d : goal.overflow_add-d
overflow_add-d c = omega (arith, c.requires.1, c.loop-e.invariant.0)

pub rest-own-requires : goal.rest-own-requires
rest-own-requires c = starts c.loop-e.own _ c.in-Some.ensures

pub rest-other-requires : goal.rest-other-requires
rest-other-requires c = starts c.loop-e.other _ c.in-Some-first.ensures

pub loop-e-smaller : goal.loop-e-smaller
loop-e-smaller c = fewer c.loop-e.own _ c.rest-own.ensures

pub loop-e-preserved : goal.loop-e-preserved
loop-e-preserved c =
    let t = split c.loop-e.own _ c.in-Some.ensures _ c.rest-own.ensures in
    let u = split c.loop-e.other _ c.in-Some-first.ensures _ c.rest-other.ensures in
    let less = fewer c.loop-e.own _ c.rest-own.ensures in (
      omega (arith, c.loop-e.invariant.0),
      rw c.unite-x.ensures (beside_turn c.args.s c.loop-e.d _ _ _ _ _ c.loop-e.x _ (rw (c.keys.ensures, c.keys-in-Some.ensures) at c.keys_digits.ensures)
          (rw (t, u) at c.loop-e.invariant.1)),
    )

pub returns : goal.returns
returns c = beside_end c.args.s c.loop-e.d _ _ _ (rw (ended c.loop-e.own c.in_default.ensures) at c.loop-e.invariant.1)
