use Rattle.std.proofs.Common.{◌≡◌, ◌+◌, ◌-◌, ◌∙◌, arith}
use Rattle.path_frame.specs.Walked.{walk_said}
use Rattle.path_frame.proofs.Walks.{elems_turn}
use Rattle.path_frame.proofs.read_elements.Goals as goal

pub loop-preserved : goal.loop-preserved
unfolding walk_said
loop-preserved c =
    let e : c.args.count - (c.loop.counter + 1) ≡ c.args.count - c.loop.counter - 1 = omega arith in
    c.loop.invariant
    ∙ rw (e, c.smaller-refusal.ensures)
    (elems_turn c.args.f.now c.loop.next (c.args.count - c.loop.counter) _ _ _ c.in_ok-e.ensures (omega arith))
