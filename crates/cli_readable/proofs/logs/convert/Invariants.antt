-- `convert` goes from part to part.
use Prim.Native.Nat.{◌+◌, ◌-◌, ◌≤◌}
use mathlib.Core.Path.{◌≡◌}
use lib.ListN.{length}
use Rattle.limits.specs.Limits.{max_log_lines}
use Rattle.cli_readable.proofs.logs.convert.Given as goal

-- The buffer has its length; what is left of a part stands from `from` up to `to`, and `number` is that of the next line.
abbrev pub invariant-loop-parts : goal.invariant-loop-parts
invariant-loop-parts l = (l.from ≤ l.to) × (l.to ≤ 65536) × (l.number ≤ max_log_lines + 1) × (length l.buf ≡ 65536)

abbrev pub decreases-loop-parts : goal.decreases-loop-parts
decreases-loop-parts l = max_log_lines + 1 - l.parts
