-- `has` equals its definition.
use mathlib.Core.Path.{ap}
use Prim.Native.Nat.{ℕ, ◌/◌, ◌^◌}
use lib.Dec.{eqb}
use lib.Bits.{and_mask}
use Rattle.table_membership.proofs.has.Goals as goal

pub returns : goal.returns
returns c = ap (λ (y : ℕ). eqb y 1) (and_mask (c.args.set / 2 ^ c.args.g.0) 1)
