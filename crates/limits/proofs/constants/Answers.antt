use mathlib.Core.Path.{refl}
use Rattle.limits.proofs.constants.Goals as goal

pub returns : goal.returns
returns c = refl
