use Rattle.std.proofs.Common.{arith}
use Rattle.path_frame.specs.Walked.{key_said}
use Rattle.path_frame.proofs.Keys.{reading}
use Rattle.path_frame.proofs.read_key.Goals as goal

pub returns : goal.returns
unfolding key_said
returns c = grind (arith, reading)
