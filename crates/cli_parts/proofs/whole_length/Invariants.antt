-- `whole_length` goes back to the last LF.
use mathlib.Core.Path.{◌≡◌}
use lib.ListN.{take}
use Rattle.cli_parts.specs.Parts.{whole_length}
use Rattle.cli_parts.proofs.whole_length.Given as goal

-- The bytes from n on have no LF.
abbrev pub invariant-loop-n : goal.invariant-loop-n
invariant-loop-n l = whole_length (take l.n l.text) ≡ whole_length l.text
