use mathlib.Core.Path.{ap}
use Prim.Native.Nat.{ℕ, ◌/◌}
use Rattle.table_rows.specs.Strings.{hash_of, hash_step}
use Rattle.table_rows.proofs.hash.Goals as goal

pub returns : goal.returns
unfolding hash_of
returns c = ap (λ (z : ℕ). z / hash_step) c.mix.ensures
