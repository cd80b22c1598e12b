-- `read` goes from line to line.
use Rattle.limits.specs.Sizes.{report_lines}
use Rattle.season_sum.proofs.Lines.{Reading}
use Rattle.season_sum.proofs.reading.read.Given as goal

abbrev pub invariant-loop-i : goal.invariant-loop-i
invariant-loop-i l = Reading l.text l.initial.figures report_lines l.at l.i l.figures
