use native.Mathlib.Omega.{arith}
use mathlib.Core.Path.{◌≡◌, refl, sym, ◌∙◌}
use Prim.Native.Nat.{◌+◌, ◌-◌}
use Rattle.table_place.proofs.Cursor.{keys_step, keys_stop, keys_room, keys_again}
use Rattle.table_place.proofs.keys_end.Goals as goal

pub loop-init : goal.loop-init
loop-init c = let e : c.args.k - 0 ≡ c.args.k = omega arith in rw e (c.requires, refl)

pub key_end-q-requires : goal.key_end-q-requires
key_end-q-requires c = (keys_room _ _ _ (omega arith) c.loop.invariant.0).1

pub loop-preserved : goal.loop-preserved
loop-preserved c =
    let e : c.args.k - (c.loop.counter + 1) ≡ c.args.k - c.loop.counter - 1 = omega arith in
    rw e (
      keys_again _ _ _ _ (omega arith) c.loop.invariant.0 c.key_end-q.ensures,
      c.loop.invariant.1 ∙ rw c.key_end-q.ensures (keys_step _ _ _ (omega arith)),
    )

pub returns : goal.returns
returns c = sym (c.loop.invariant.1 ∙ keys_stop _ _ _ (omega arith))
