use mathlib.Core.Path.{◌≡◌}
use Rattle.text.specs.Test.{any}
use Rattle.verdict_compare.specs.Compare.{answers}
use Rattle.verdict_compare.specs.Place.{key, keys}
use Rattle.verdict_compare.proofs.place.Keys.answer.Given as goal

-- none of the keys passed answers: whether one of all does is whether one of those that are left does
abbrev pub invariant-loop-j : goal.invariant-loop-j
invariant-loop-j l = any (λ j. answers l.cover j (key l.asked)) (keys l.fn.self) ≡ any (λ j. answers l.cover j (key l.asked)) (keys l.j-iterator)
