use Rattle.verdict_filter.proofs.Laws.{fresh}
use Rattle.verdict_filter.proofs.Turns.{keys_turn, keys_end_lem}
use Rattle.verdict_filter.proofs.keys_digits.Goals as goal

pub loop-k-init : goal.loop-k-init
loop-k-init c = rw c.into_iter-k-iterator.ensures.into_iter_gives (fresh _ _ c.empty-x.ensures)

pub loop-k-preserved : goal.loop-k-preserved
loop-k-preserved c =
    rw c.unite-x.ensures (keys_turn c.args.s c.args.d _ _ _ _ c.loop-k.x _ c.key_digits.ensures (rw c.in-Some.ensures.steps at c.loop-k.invariant))

pub returns : goal.returns
returns c = keys_end_lem c.args.s c.args.d _ _ _ (rw c.in-None.ensures.steps.0 at c.loop-k.invariant)
