use mathlib.Core.Path.{◌≡◌}
use Prim.Native.Nat.{◌+◌}
use lib.ListN.{length}
use Rattle.verdict.specs.Cover.{given}
use Rattle.verdict_compare.specs.Place.{keys}
use Rattle.verdict_judge.proofs.rule.count_given.Given as goal

-- n counts the definite ones of the keys passed
abbrev pub invariant-loop-key : goal.invariant-loop-key
invariant-loop-key l = length (given (keys l.fn.own)) ≡ l.n + length (given (keys l.key-iterator))
