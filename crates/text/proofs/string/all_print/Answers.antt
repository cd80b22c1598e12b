use Rattle.std.proofs.Common.{rules, tests}
use Rattle.std.proofs.lemmas.Iterator.{YieldsList-from_slice}
use Rattle.text.specs.Byte.{is_print}
use Rattle.text.proofs.Library.{all_told}
use Rattle.text.proofs.string.all_print.Goals as goal

pub returns : goal.returns
returns c = all_told is_print _ _ c.all.result c.all.ensures.ran (YieldsList-from_slice c.args.s.now cc) (λ x b q k. search (rules, tests))
