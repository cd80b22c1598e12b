use Rattle.std.proofs.Common.{◌≡◌, ◌+◌, ◌-◌, ◌∙◌, sym, arith}
use Rattle.path_frame.specs.Walked.{key_said}
use Rattle.path_frame.proofs.Walks.{has_turn}
use Rattle.path_frame.proofs.has_key.Goals as goal

pub loop-preserved : goal.loop-preserved
unfolding key_said
loop-preserved c =
    let e : c.args.count - (c.loop.counter + 1) ≡ c.args.count - c.loop.counter - 1 = omega arith in
    rw (e, c.is_same-found.ensures) (c.loop.invariant ∙ has_turn c.args.f.now c.loop.p (c.args.count - c.loop.counter) c.loop.found c.args.name.now _ _ (sym c.in-Some.ensures) (omega arith))
