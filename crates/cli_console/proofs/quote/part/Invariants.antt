-- `part` shows byte after byte.
use Prim.Native.Nat.{◌*◌, ◌≤◌}
use mathlib.Core.Path.{◌≡◌}
use lib.ListN.{length, take}
use Rattle.cli_console.specs.Quoted.{quoted}
use Rattle.cli_console.proofs.quote.part.Given as goal

abbrev pub invariant-loop-b : goal.invariant-loop-b
invariant-loop-b l = record { made : l.text ≡ quoted (take l.b-index l.s); short : length l.text ≤ 4 * l.b-index }
