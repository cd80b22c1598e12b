use native.Mathlib.Omega.{arith}
use Rattle.cli_explained.proofs.Listing.{listed_none, listed_more, listed_all}
use Rattle.cli_explained.proofs.add_ranking.Goals as goal

pub loop-i-init : goal.loop-i-init
loop-i-init g c = listed_none _ _ _

pub loop-i-preserved : goal.loop-i-preserved
loop-i-preserved g c =
    let few = c.requires.0.listed.few in
    let held = c.requires.0.held in
    listed_more _ _ _ _ _ _ _ c.loop-i.invariant (omega arith) (c.requires.0.listed.numbers _ c.loop-i-test.true)
    (c.requires.0.listed.numbers 0 (omega arith)) _ c.add_line.ensures.added c.add_line.ensures.short

pub returns : goal.returns
returns g c = listed_all _ _ _ _ _ _ _ c.loop-i.invariant _ (omega arith) c.loop-i-test.false
