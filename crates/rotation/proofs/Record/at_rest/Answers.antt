use Rattle.std.proofs.Common.{refl}
use Rattle.rotation.specs.State.{at_rest}
use Rattle.rotation.proofs.Record.at_rest.Goals as goal

pub returns : goal.returns
unfolding at_rest
returns c = refl
