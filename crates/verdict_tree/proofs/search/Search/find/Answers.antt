use native.Mathlib.Omega.{arith}
use mathlib.Core.Bool.{Bool}
use Rattle.table.specs.Table.{Rule}
use Rattle.verdict.specs.Order.{earlier}
use Rattle.verdict.proofs.Order.{earlier_order}
use Rattle.verdict_compare.specs.Place.{elements}
use Rattle.verdict_judge.specs.Placed.{of_rules}
use Rattle.verdict_judge.specs.Best.{held}
use Rattle.verdict_judge.proofs.Steps.{best_none, best_turn, best_end}
use Rattle.verdict_tree.specs.Tree.{opposing}
use Rattle.verdict_tree.proofs.search.Search.find.Goals as goal

pub loop-i-init : goal.loop-i-init
unfolding held
loop-i-init c =
    let R = c.args.self.now.rules in
    λ test h. best_none earlier earlier_order (opposing test (of_rules R) (elements c.args.self.now.asked) c.args.v) R.bytes.now R.starts.now R.count

pub loop-i-preserved : goal.loop-i-preserved
loop-i-preserved c =
    let R = c.args.self.now.rules in
    λ test h. best_turn earlier earlier_order (opposing test (of_rules R) (elements c.args.self.now.asked) c.args.v) R.bytes.now R.starts.now R.count
    _ (held c.loop-i.found) _ c.loop-i.i c.loop-i-test.true (c.oppose-found.ensures test h) (c.loop-i.invariant test h)

pub returns : goal.returns
returns c =
    let R = c.args.self.now.rules in
    λ test h. best_end earlier earlier_order (opposing test (of_rules R) (elements c.args.self.now.asked) c.args.v) R.bytes.now R.starts.now R.count
    _ (held c.loop-i.found) c.loop-i.i c.loop-i-test.false (c.loop-i.invariant test h)
