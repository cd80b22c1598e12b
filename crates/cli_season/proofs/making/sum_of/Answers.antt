-- `sum_of` is the definition.
use mathlib.Core.Path.{refl}
use Rattle.cli_season.specs.Page.{sum_of}
use Rattle.cli_season.proofs.making.sum_of.Goals as goal

pub returns : goal.returns
unfolding sum_of
returns c = refl
