-- The values of the lines that are passed stand from `at` on, those of the chain from p on are still to be stored in front of them.
use Rattle.std.proofs.Common.{◌≡◌, length}
use Rattle.rpc_request.proofs.Chains.{Gathering, steps}
use Rattle.rpc_request.proofs.index.HeaderIndex.value.Given as goal

abbrev pub invariant-loop-p : goal.invariant-loop-p
invariant-loop-p l = record {
  room : length l.out ≡ length l.initial.out;
  gathering : Gathering l.key l.self-inside.lines.now l.self-inside.before.now l.out l.p l.at;
}

abbrev pub decreases-loop-p : goal.decreases-loop-p
decreases-loop-p l = steps l.self-inside.lines.now l.p
