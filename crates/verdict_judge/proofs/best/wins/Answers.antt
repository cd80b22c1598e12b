use mathlib.Core.Path.{◌∙◌}
use Rattle.verdict_judge.specs.Best.{numbered, kept, wins}
use Rattle.verdict_judge.proofs.Parts.{better_other, better_same}
use Rattle.verdict_judge.proofs.best.wins.Goals as goal

pub returns-in_default : goal.returns-in_default
unfolding kept wins
returns-in_default c = rw c.in_default.is

pub returns-then-own_rank-other : goal.returns-then-own_rank-other
unfolding numbered kept wins
returns-then-own_rank-other c =
    rw c.in-Some.is (better_other c.args.own c.in-Some.other.found.rule _ _ c.requires c.in-Some.other.ranked c.if-own_rank-other.true)

pub returns : goal.returns
unfolding numbered kept wins
returns c =
    rw c.in-Some.is (c.is_earlier.ensures
    ∙ better_same c.args.own c.in-Some.other.found.rule _ _ c.requires c.in-Some.other.ranked c.if-own_rank-other.false)
