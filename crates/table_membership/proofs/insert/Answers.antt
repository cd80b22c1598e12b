-- `insert` equals its definition.
use mathlib.Core.Path.{ap}
use lib.Bits.{bit_or}
use Rattle.table_membership.proofs.Bits.{shifted_one}
use Rattle.table_membership.proofs.insert.Goals as goal

pub returns : goal.returns
returns c = ap (bit_or c.args.set) (shifted_one _ c.requires)
