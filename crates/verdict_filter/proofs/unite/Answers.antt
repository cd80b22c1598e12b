use mathlib.Core.Path.{refl}
use Rattle.verdict_filter.specs.Bloom.{unite}
use Rattle.verdict_filter.proofs.unite.Goals as goal

pub returns : goal.returns
unfolding unite
returns c = refl
