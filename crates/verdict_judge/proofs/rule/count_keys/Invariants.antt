use mathlib.Core.Path.{◌≡◌}
use Prim.Native.Nat.{◌+◌}
use Rattle.verdict.specs.Order.{definites}
use Rattle.verdict_compare.specs.Place.{elements}
use Rattle.verdict_judge.proofs.rule.count_keys.Given as goal

-- n counts the definite keys of the elements passed
abbrev pub invariant-loop-element : goal.invariant-loop-element
invariant-loop-element l = definites (elements l.fn.path) ≡ l.n + definites (elements l.element-iterator)
