use mathlib.Core.Path.{◌≡◌}
use Rattle.text.specs.Test.{all}
use Rattle.verdict.specs.Cover.{given}
use Rattle.verdict_compare.specs.Compare.{key_passes}
use Rattle.verdict_compare.specs.Place.{keys}
use Rattle.verdict_compare.proofs.place.Keys.pass.Given as goal

-- the keys passed all pass: whether all do is whether those that are left do
abbrev pub invariant-loop-k : goal.invariant-loop-k
invariant-loop-k l = all (key_passes l.cover (keys l.mine) (keys l.more)) (given (keys l.fn.self)) ≡
    all (key_passes l.cover (keys l.mine) (keys l.more)) (given (keys l.k-iterator))
