-- `write_value` stores the bytes of the value, one after another.
use lib.ListN.{drop}
use Rattle.text.specs.String.{joined}
use Rattle.text.proofs.Filling.{Pending}
use Rattle.path_read.specs.Text.{escaped}
use Rattle.path_write.proofs.write_value.Given as goal

-- The bytes before the index are written, up to p in `out`; those from there on are still to be.
abbrev pub invariant-loop-b : goal.invariant-loop-b
invariant-loop-b l = Pending l.initial.out l.at (joined escaped l.v) l.out l.p (joined escaped (drop l.b-index l.v))
