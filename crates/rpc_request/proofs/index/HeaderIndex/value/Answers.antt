-- `HeaderIndex::value` stores the value of the header.
use Rattle.std.proofs.Common.{◌≡◌, length, arith, refl, ap, subst, ◌∙◌}
use Rattle.text.specs.String.{Str}
use Rattle.text_hash.proofs.Mixing.{place_within}
use Rattle.rpc_request.specs.Steps.{Joined}
use Rattle.rpc_request.proofs.Chains.{bucket_inside, gathering_start, linked, linked_line, linked_room, linked_kept, steps_fall, gathering_on, joined_value}
use Rattle.rpc_request.proofs.index.HeaderIndex.value.Goals as goal

pub offset_bounds-self-inside-b : goal.offset_bounds-self-inside-b
offset_bounds-self-inside-b c = omega (arith, bucket_inside _ _ c.self.inside.last.now _ c.place-b.ensures c.self.invariant.buckets)

pub bounds-self-inside-b : goal.bounds-self-inside-b
bounds-self-inside-b c = bucket_inside _ _ _ _ c.place-b.ensures c.self.invariant.buckets

pub loop-p-init : goal.loop-p-init
loop-p-init c = record {
  room = refl;
  gathering = gathering_start _ _ _ _ _ _ _ c.self.invariant c.place-b.ensures (place_within _ _ _ _ c.place-b.ensures (omega arith));
}

pub join_line-at-requires : goal.join_line-at-requires
join_line-at-requires c =
    let g = linked _ _ _ _ _ _ _ c.loop-p-test.true c.byte_from-e.ensures c.loop-p.invariant.gathering in (
      linked_line _ _ _ _ _ _ _ c.loop-p-test.true c.byte_from-e.ensures g,
      linked_room _ _ _ _ _ _ _ c.loop-p-test.true c.byte_from-e.ensures g (let e : c.self.inside.lines.now ≡ c.args.self.now = c.self.view_is in omega (arith, c.loop-p.invariant.room, ap length e)),
      g.high,
    )

pub loop-p-smaller : goal.loop-p-smaller
loop-p-smaller c =
    let g = linked _ _ _ _ _ _ _ c.loop-p-test.true c.byte_from-e.ensures c.loop-p.invariant.gathering in
    steps_fall _ _ _ _ _ _ _ c.loop-p-test.true c.byte_from-e.ensures g

pub loop-p-preserved : goal.loop-p-preserved
loop-p-preserved c =
    let g = linked _ _ _ _ _ _ _ c.loop-p-test.true c.byte_from-e.ensures c.loop-p.invariant.gathering in
    record {
      room = linked_kept _ _ _ _ _ _ _ c.loop-p-test.true c.byte_from-e.ensures g _ _ c.join_line-at.ensures.0 c.join_line-at.ensures.1 ∙ c.loop-p.invariant.room;
      gathering = gathering_on _ _ _ _ _ _ _ c.loop-p-test.true c.byte_from-e.ensures g _ _ c.join_line-at.ensures.0 c.join_line-at.ensures.1;
    }

pub returns : goal.returns
returns c =
    let e : c.self.inside.lines.now ≡ c.args.self.now = c.self.view_is in
    subst (λ (h : Str). Joined c.args.key.now h c.loop-p.out c.min.result) e
    (joined_value _ _ _ _ _ _ c.loop-p-test.false c.loop-p.invariant.gathering _ c.min.ensures)
