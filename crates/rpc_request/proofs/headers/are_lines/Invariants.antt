-- `are_lines` equals its definition. The invariant: what is left to judge.
use Prim.Native.Nat.{◌-◌}
use lib.ListN.{length}
use Rattle.rpc_request.proofs.Lines.{Judging}
use Rattle.rpc_request.proofs.headers.are_lines.Given as goal

-- whether h is lines is whether what stands from i on is
abbrev pub invariant-loop-i : goal.invariant-loop-i
invariant-loop-i l = Judging l.h l.i

abbrev pub decreases-loop-i : goal.decreases-loop-i
decreases-loop-i l = length l.h - l.i
