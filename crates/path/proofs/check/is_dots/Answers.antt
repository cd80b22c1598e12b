use Rattle.std.proofs.Common.{arith}
use Rattle.text.proofs.Library.{same_is}
use Rattle.path.proofs.check.is_dots.Goals as goal

pub returns : goal.returns
returns c = grind (arith, same_is)
