-- `start` finds the line.
use Rattle.cli_console.proofs.Numbering.{Passing}
use Rattle.cli_console.proofs.lines.start.Given as goal

-- that line begins at `at`
abbrev pub invariant-loop-passed : goal.invariant-loop-passed
invariant-loop-passed l = Passing l.text l.n l.at l.passed
