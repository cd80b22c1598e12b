use native.Mathlib.Omega.{arith}
use Prim.Native.Nat.{◌-◌}
use Rattle.text_hash.proofs.Mixing.{place_within}
use Rattle.member_index.proofs.Walks.{walk_start, walk_inside, walk_turn, walk_less, walk_end}
use Rattle.member_index.proofs.memberships.Goals as goal

pub offset_bounds-heads-place : goal.offset_bounds-heads-place
offset_bounds-heads-place c =
    omega (arith, place_within _ _ _ _ c.requires.2 (omega arith))

pub bounds-heads-place : goal.bounds-heads-place
bounds-heads-place c =
    omega (arith, place_within _ _ _ _ c.requires.2 (omega arith), c.requires.1.size)

pub overflow_cast-next : goal.overflow_cast-next
overflow_cast-next c =
    omega (arith, c.type_inv.heads c.args.place)

pub loop-next-init : goal.loop-next-init
loop-next-init c =
    walk_start _ _ _ _ _ _ _ _ _ c.requires.1 c.requires.2

pub offset_bounds-users-i : goal.offset_bounds-users-i
offset_bounds-users-i c =
    omega (arith, walk_inside c.loop-next.invariant c.loop-next-test.true, c.requires.0.listed.room)

pub bounds-users-i : goal.bounds-users-i
bounds-users-i c =
    omega (arith, walk_inside c.loop-next.invariant c.loop-next-test.true, c.requires.0.listed.room)

pub overflow_cast-at : goal.overflow_cast-at
overflow_cast-at c = omega (arith, c.type_inv.users (c.loop-next.next - 1))

pub bounds-owners-i : goal.bounds-owners-i
bounds-owners-i c =
    omega (arith, walk_inside c.loop-next.invariant c.loop-next-test.true, c.requires.0.room)

pub join-set-requires : goal.join-set-requires
join-set-requires c = (
  c.requires.0.owned (c.loop-next.next - 1) (walk_inside c.loop-next.invariant
      c.loop-next-test.true),
  c.requires.0.listed.laid (c.loop-next.next - 1) (walk_inside c.loop-next.invariant c.loop-next-test.true),
)

pub offset_bounds-links-i : goal.offset_bounds-links-i
offset_bounds-links-i c =
    omega (arith, walk_inside c.loop-next.invariant c.loop-next-test.true, c.requires.1.room)

pub bounds-links-i : goal.bounds-links-i
bounds-links-i c =
    omega (arith, walk_inside c.loop-next.invariant c.loop-next-test.true, c.requires.1.room)

pub overflow_cast-next-in-loop-next : goal.overflow_cast-next-in-loop-next
overflow_cast-next-in-loop-next c =
    omega (arith, c.type_inv.links (c.loop-next.next - 1))

pub loop-next-smaller : goal.loop-next-smaller
loop-next-smaller c =
    walk_less c.loop-next.invariant c.loop-next-test.true

pub loop-next-preserved : goal.loop-next-preserved
loop-next-preserved c =
    walk_turn c.loop-next.invariant c.loop-next-test.true _ c.join-set.ensures

pub returns : goal.returns
returns c = walk_end c.loop-next.invariant c.loop-next-test.false
