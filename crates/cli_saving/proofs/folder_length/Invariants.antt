-- `folder_length` answers a count of the path's bytes.
use Prim.Native.Nat.{◌≤◌}
use lib.ListN.{length}
use Rattle.cli_saving.proofs.folder_length.Given as goal

-- i is within the path.
abbrev pub invariant-loop-i : goal.invariant-loop-i
invariant-loop-i l = l.i ≤ length l.path

abbrev pub decreases-loop-i : goal.decreases-loop-i
decreases-loop-i l = l.i
