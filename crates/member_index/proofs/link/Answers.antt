use native.Mathlib.Omega.{arith}
use mathlib.Core.Path.{refl}
use Prim.Native.Nat.{◌-◌}
use lib.ListN.{length-set}
use Rattle.text_hash.proofs.Mixing.{place_within}
use Rattle.member_index.proofs.Chains.{link_start, link_turn, link_end}
use Rattle.member_index.proofs.link.Goals as goal

pub loop-left-init : goal.loop-left-init
loop-left-init c =
    (omega arith, link_start _ _ _ _ _ _ c.requires, refl)

pub overflow_cast-at : goal.overflow_cast-at
overflow_cast-at c = omega (arith, c.type_inv.users (c.loop-left.left - 1))

pub place_at-b-requires : goal.place_at-b-requires
place_at-b-requires c =
    (c.requires.listed.laid (c.loop-left.left - 1) (omega arith), c.requires.small)

pub offset_bounds-heads-b : goal.offset_bounds-heads-b
offset_bounds-heads-b c = omega (arith, place_within _ _ _ _ c.place_at-b.ensures (omega arith))

pub bounds-heads-b : goal.bounds-heads-b
bounds-heads-b c =
    omega (arith, place_within _ _ _ _ c.place_at-b.ensures (omega arith), c.loop-left.invariant.1.size)

pub offset_bounds-heads-b-in-loop-left : goal.offset_bounds-heads-b-in-loop-left
offset_bounds-heads-b-in-loop-left c = omega (arith, place_within _ _ _ _ c.place_at-b.ensures (omega arith))

pub bounds-heads-b-in-loop-left : goal.bounds-heads-b-in-loop-left
bounds-heads-b-in-loop-left c =
    omega (arith, place_within _ _ _ _ c.place_at-b.ensures (omega arith), c.loop-left.invariant.1.size)

pub loop-left-preserved : goal.loop-left-preserved
loop-left-preserved c = (
  omega arith,
  link_turn c.loop-left.invariant.1 _ c.loop-left-test.true c.loop-left.invariant.0
      (place_within _ _ _ _ c.place_at-b.ensures (omega arith)) c.place_at-b.ensures,
  simp length-set c.loop-left.invariant.2,
)

pub returns : goal.returns
returns c = (link_end c.loop-left.invariant.1 c.loop-left-test.false, c.loop-left.invariant.2)
