-- `write_hex` stores the digits of the bytes, one after another.
use lib.ListN.{drop}
use Rattle.text.specs.String.{joined}
use Rattle.text.proofs.Filling.{Pending}
use Rattle.readable_parts.specs.Parts.{hex_pair, hex_text}
use Rattle.readable_parts.proofs.hex.write_hex.Given as goal

-- The digits of the bytes before the index are written, up to p in `out`; those of the bytes from there on are still to be.
abbrev pub invariant-loop-b : goal.invariant-loop-b
invariant-loop-b l = Pending l.initial.out l.at (hex_text l.f) l.out l.p (joined hex_pair (drop l.b-index l.f))
