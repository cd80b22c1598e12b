use mathlib.Core.Path.{◌≡◌}
use Prim.Native.Nat.{◌+◌, ◌*◌}
use lib.ListN.{length}
use Rattle.verdict_compare.specs.Place.{elements}
use Rattle.verdict_filter.specs.Bloom.{depth_step, unite, path_digits}
use Rattle.verdict_filter.proofs.path_digits.Given as goal

-- x has the digits of the elements passed, and `depth` is that of the next
abbrev pub invariant-loop-e : goal.invariant-loop-e
invariant-loop-e l = (l.depth + depth_step * length (elements l.e-iterator) ≡ l.d + depth_step * length (elements l.fn.own))
    × (path_digits l.s l.d (elements l.fn.own) ≡ unite l.x (path_digits l.s l.depth (elements l.e-iterator)))
