-- `raise` raises the place of its definition.
use mathlib.Core.Path.{refl}
use Rattle.season_count.proofs.count.raise.Goals as goal

pub returns : goal.returns
returns c = refl
