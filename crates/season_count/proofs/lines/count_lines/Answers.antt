-- `count_lines` counts line after line.
use native.Mathlib.Omega.{arith}
use Rattle.season_count.specs.Counting.{Counts-lines}
use Rattle.season_count.proofs.Looping.{going_starts, going_over, going_bad, going_on, going_ends, step_bad, step_to}
use Rattle.season_count.proofs.lines.count_lines.Goals as goal

pub loop-from-init : goal.loop-from-init
loop-from-init c = going_starts _ _ _ c.requires

pub returns-then-tally-ge-MAX_LOG_LINES : goal.returns-then-tally-ge-MAX_LOG_LINES
unfolding Counts-lines
returns-then-tally-ge-MAX_LOG_LINES c =
    rw c.at.ensures (going_over _ _ _ c.loop-from.invariant c.loop-from-test.true c.if-tally-ge-MAX_LOG_LINES.true)

pub returns-in_default : goal.returns-in_default
unfolding Counts-lines
returns-in_default c =
    rw c.at-in_default.ensures
    (going_bad _ _ _ c.loop-from.invariant (omega (arith, c.if-tally-ge-MAX_LOG_LINES.false)) (step_bad _ _ c.args.tally.now _ _ _ _ _ c.count_line.ensures c.in_default.is))

pub loop-from-smaller : goal.loop-from-smaller
loop-from-smaller c =
    let s = step_to _ _ c.args.tally.now _ _ _ _ _ c.count_line.ensures _ c.in-Some.is in omega (arith, s.goes.0, s.goes.1)

pub loop-from-preserved : goal.loop-from-preserved
loop-from-preserved c =
    going_on _ _ _ c.loop-from.invariant (omega (arith, c.if-tally-ge-MAX_LOG_LINES.false)) (step_to _ _ c.args.tally.now _ _ _ _ _ c.count_line.ensures _ c.in-Some.is)

pub returns : goal.returns
unfolding Counts-lines
returns c = going_ends _ _ _ c.loop-from.invariant (omega (arith, c.loop-from-test.false))
