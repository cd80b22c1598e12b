use Rattle.std.proofs.Common.{rules, tests}
use Rattle.std.proofs.lemmas.Iterator.{YieldsList-from_slice}
use Rattle.path.specs.Refusal.{outside_name}
use Rattle.text.proofs.Library.{any_told}
use Rattle.path.proofs.check.has_outside.Goals as goal

pub returns : goal.returns
unfolding outside_name
returns c = any_told outside_name _ _ c.any.result c.any.ensures.ran (YieldsList-from_slice c.args.s.now cc) (λ x b q k. search (rules, tests))
