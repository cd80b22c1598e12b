-- `count_line` counts the first line from `from` on.
use native.Mathlib.Omega.{arith}
use Rattle.table_line.proofs.FirstLine.{line_read, line_unhex}
use Rattle.season_count.specs.Counting.{Counts-line}
use Rattle.season_count.proofs.Windows.{from_within, from_below, bad_line}
use Rattle.season_count.proofs.Lining.{judged_bad, judged_answer, size_within, no_request, mode_fits, counted_line}
use Rattle.season_count.proofs.lines.count_line.Goals as goal

pub returns-in_err-len : goal.returns-in_err-len
unfolding Counts-line
returns-in_err-len c = rw c.from_residual.ensures (bad_line _ _ _ c.requires.2 c.reach-to.ensures
    (line_unhex _ _ _ c.read_line.ensures.value (from_below _ _ _ c.requires.2 c.reach-to.ensures) c.in_err-len.was))

pub shared_ref_as_front-frame : goal.shared_ref_as_front-frame
shared_ref_as_front-frame c =
    let line = line_read _ _ _ c.read_line.ensures.value (from_within _ _ _ c.requires.2 c.reach-to.ensures) _ c.in_ok-len.was in
    omega (arith, size_within _ _ _ c.requires.2 c.reach-to.ensures _ _ (omega arith) c.read_line.ensures.out_after line)

pub returns-in_err-answer : goal.returns-in_err-answer
unfolding Counts-line
returns-in_err-answer c =
    let line = line_read _ _ _ c.read_line.ensures.value (from_within _ _ _ c.requires.2 c.reach-to.ensures) _ c.in_ok-len.was in
    rw c.from_residual-in_err-answer.ensures (no_request _ _ _ c.requires.2 c.reach-to.ensures _ _ (omega arith) c.read_line.ensures.out_after line
    (judged_bad _ _ _ _ c.judge.ensures c.in_err-answer.was))

pub count-requires : goal.count-requires
count-requires c =
    let line = line_read _ _ _ c.read_line.ensures.value (from_within _ _ _ c.requires.2 c.reach-to.ensures) _ c.in_ok-len.was in
    let answer = judged_answer _ _ _ _ c.judge.ensures _ c.in_ok-answer.was in
    let mode = mode_fits _ _ _ c.requires.2 c.reach-to.ensures _ _ (omega arith) c.read_line.ensures.out_after line _ _ _ answer in
    (answer.placed, mode.0, mode.1, c.requires.1)

pub returns : goal.returns
unfolding Counts-line
returns c =
    let line = line_read _ _ _ c.read_line.ensures.value (from_within _ _ _ c.requires.2 c.reach-to.ensures) _ c.in_ok-len.was in
    let answer = judged_answer _ _ _ _ c.judge.ensures _ c.in_ok-answer.was in
    counted_line _ _ _ c.requires.2 c.reach-to.ensures _ _ (omega arith) c.read_line.ensures.out_after line _ _ _ answer _ _
    c.count.ensures.rules c.count.ensures.grid c.count.ensures.lines
