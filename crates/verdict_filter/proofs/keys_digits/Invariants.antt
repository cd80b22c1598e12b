use mathlib.Core.Path.{◌≡◌}
use Rattle.verdict_compare.specs.Place.{keys}
use Rattle.verdict_filter.specs.Bloom.{unite, keys_digits}
use Rattle.verdict_filter.proofs.keys_digits.Given as goal

-- x has the digits of the keys passed
abbrev pub invariant-loop-k : goal.invariant-loop-k
invariant-loop-k l = keys_digits l.s l.d (keys l.asked) (keys l.fn.own) ≡ unite l.x (keys_digits l.s l.d (keys l.asked) (keys l.k-iterator))
