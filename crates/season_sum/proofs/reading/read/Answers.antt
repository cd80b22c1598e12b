use native.Mathlib.Omega.{arith}
use mathlib.Core.Path.{◌≡◌}
use Rattle.limits.specs.Sizes.{report_lines}
use Rattle.season_sum.proofs.Lines.{reading_start, reading_done, reading_long, reading_short, reading_stops, reading_on}
use Rattle.season_sum.proofs.reading.read.Goals as goal

pub loop-i-init : goal.loop-i-init
loop-i-init c = reading_start _ _ _ (omega arith)

pub returns-then-text-at : goal.returns-then-text-at
returns-then-text-at c = reading_short _ _ _ _ _ _ c.loop-i.invariant c.loop-i-test.true c.if-text-at.true

pub returns-in_default : goal.returns-in_default
returns-in_default c =
    reading_stops _ _ _ _ _ _ c.loop-i.invariant c.loop-i-test.true c.if-text-at.false
    (rw c.in_default.is at c.figure_at.ensures)

pub loop-i-preserved : goal.loop-i-preserved
loop-i-preserved c =
    reading_on _ _ _ _ _ _ c.loop-i.invariant c.loop-i-test.true c.if-text-at.false _ (rw c.in-Some.is at c.figure_at.ensures)

pub returns-then-at-text : goal.returns-then-at-text
returns-then-at-text c =
    let e : c.loop-i.i ≡ report_lines = omega (arith, c.loop-i.auto.i-end, c.loop-i-test.false) in
    rw e at (reading_long _ _ _ _ _ _ c.loop-i.invariant (omega arith) c.if-at-text.true)

pub returns : goal.returns
returns c = reading_done _ _ _ _ _ _ c.loop-i.invariant (omega (arith, c.loop-i-test.false)) c.if-at-text.false
