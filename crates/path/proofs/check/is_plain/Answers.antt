use Rattle.std.proofs.Common.{rules, tests}
use Rattle.std.proofs.lemmas.Iterator.{YieldsList-from_slice}
use Rattle.text.specs.Byte.{is_name}
use Rattle.text.proofs.Library.{all_told}
use Rattle.path.proofs.check.is_plain.Goals as goal

pub returns : goal.returns
returns c = all_told is_name _ _ c.all.result c.all.ensures.ran (YieldsList-from_slice c.args.s.now cc) (λ x b q k. search (rules, tests))
