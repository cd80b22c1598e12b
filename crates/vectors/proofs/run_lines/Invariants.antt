-- `run_lines` is safe and ends: the text lies before the line, or ends with it.
use Prim.Native.Nat.{◌-◌, ◌≤◌}
use lib.ListN.{length}
use Rattle.vectors.proofs.run_lines.Given as goal

-- what was kept of a table lies before `at`, which is within the text
abbrev pub invariant-loop-at : goal.invariant-loop-at
invariant-loop-at l = (l.t.start ≤ l.t.end) × (l.t.end ≤ l.at) × (l.at ≤ length l.text)

abbrev pub decreases-loop-at : goal.decreases-loop-at
decreases-loop-at l = length l.text - l.at
