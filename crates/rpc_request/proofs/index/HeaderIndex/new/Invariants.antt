-- The lines before i are in the chains, and those from i on are good; the links keep their number; b is the bucket of `name`.
use Rattle.std.proofs.Common.{◌≡◌, ◌-◌, length}
use Rattle.rpc_request.specs.Index.{bucket_of}
use Rattle.rpc_request.proofs.Chains.{Indexing}
use Rattle.rpc_request.proofs.index.HeaderIndex.new.Given as goal

abbrev pub invariant-loop-i : goal.invariant-loop-i
invariant-loop-i l = record {
  indexing : Indexing l.seed l.lines l.last l.before l.i;
  links : length l.before ≡ length l.initial.before;
  bucket : l.b ≡ bucket_of l.seed l.name;
}

abbrev pub decreases-loop-i : goal.decreases-loop-i
decreases-loop-i l = length l.lines - l.i
