use Rattle.std.proofs.Common.{rules, tests}
use Rattle.std.proofs.lemmas.Iterator.{YieldsList-from_slice}
use Rattle.text.specs.Byte.{is_star}
use Rattle.text.proofs.Library.{any_told}
use Rattle.path.proofs.check.has_star.Goals as goal

pub returns : goal.returns
returns c = any_told is_star _ _ c.any.result c.any.ensures.ran (YieldsList-from_slice c.args.s.now cc) (λ x b q k. search (rules, tests))
