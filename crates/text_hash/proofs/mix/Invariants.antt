use mathlib.Core.Path.{◌≡◌}
use Prim.Native.Nat.{◌-◌, ◌<◌}
use Rattle.text_hash.specs.Mix.{mix_from, mix}
use Rattle.text_hash.proofs.mix.Given as goal

-- The words before k are mixed into x and y, which fit 32 bits: with the words from k on they give the hash.
abbrev pub invariant-loop-k : goal.invariant-loop-k
invariant-loop-k l = (l.x < 4294967296) × (l.y < 4294967296) × (mix l.s l.h l.t ≡ mix_from l.s l.t (l.k-end - l.k) l.k l.x l.y)
