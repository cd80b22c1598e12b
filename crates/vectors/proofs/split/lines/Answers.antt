use Prim.Native.Nat.{◌-◌}
use lib.ListN.{length-set}
use Rattle.vectors.proofs.split.lines.Goals as goal

pub loop-i-preserved : goal.loop-i-preserved
loop-i-preserved c = simp length-set c.loop-i.invariant

pub shape_of-out : goal.shape_of-out
shape_of-out c = c.loop-i.invariant
