-- `add_names` goes from name to name.
use Rattle.cli_names.proofs.Listing.{Listing}
use Rattle.cli_names.proofs.add_names.Given as goal

-- the names before number i are added
abbrev pub invariant-loop-i : goal.invariant-loop-i
invariant-loop-i l = Listing l.f l.places l.n l.initial.text l.text l.i
