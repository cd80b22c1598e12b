-- `print_lines` goes from run to run.
use Prim.Native.Nat.{◌+◌, ◌-◌, ◌≤◌}
use lib.ListN.{length}
use Rattle.limits.specs.Limits.{max_log_lines}
use Rattle.cli_readable.proofs.logs.print_lines.Given as goal

-- The lines before `from` are printed, and `number` is that of the next one: at most one past the last that a log may have.
abbrev pub invariant-loop-from : goal.invariant-loop-from
invariant-loop-from l = (l.number ≤ max_log_lines + 1) × (l.from ≤ length l.text)

abbrev pub decreases-loop-from : goal.decreases-loop-from
decreases-loop-from l = length l.text - l.from
