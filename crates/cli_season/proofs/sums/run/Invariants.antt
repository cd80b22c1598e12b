-- `run` adds report after report.
use mathlib.Core.Path.{◌≡◌}
use lib.ListN.{length}
use Rattle.limits.specs.Sizes.{report_lines}
use Rattle.cli_season.proofs.sums.run.Given as goal

abbrev pub invariant-loop-i : goal.invariant-loop-i
invariant-loop-i l = length l.sums ≡ report_lines
