-- `hex_table` has the value of each byte: of those that are no digit from the start, of the digits and letters by the loops.
use Rattle.std.proofs.Common.{◌≤◌}
use Rattle.text.proofs.HexTables.{Filled}
use Rattle.text.proofs.byte.hex_table.Given as goal

-- the digits below b have their values
abbrev pub invariant-loop-b : goal.invariant-loop-b
invariant-loop-b l = (l.b ≤ 58) × Filled l.table l.b 97

-- all digits have, and the letters below b
abbrev pub invariant-loop-b-2 : goal.invariant-loop-b-2
invariant-loop-b-2 l = (l.b ≤ 103) × Filled l.table 58 l.b
