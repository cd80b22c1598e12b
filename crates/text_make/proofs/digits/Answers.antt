-- A number of 64 bits has 20 digits at most.
use Rattle.std.proofs.Common.{arith}
use Rattle.std.proofs.lemmas.Grind.{common_steps}
use Rattle.text_make.proofs.Decimals.{decimal_short}
use Rattle.text_make.proofs.digits.Goals as goal

pub add_digits-requires : goal.add_digits-requires
add_digits-requires c = grind (arith, common_steps, decimal_short)

pub returns-clause-fits : goal.returns-clause-fits
returns-clause-fits c = grind (arith, common_steps, decimal_short)
