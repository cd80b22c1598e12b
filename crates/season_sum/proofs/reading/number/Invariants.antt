-- `number` reads digit after digit.
use mathlib.Core.Path.{◌≡◌}
use lib.ListN.{drop}
use Rattle.season_sum.specs.Reading.{number_from}
use Rattle.season_sum.proofs.reading.number.Given as goal

abbrev pub invariant-loop-i : goal.invariant-loop-i
invariant-loop-i l = number_from l.n (drop l.at l.text) ≡ number_from l.value (drop l.i l.text)
