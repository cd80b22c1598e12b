use native.Mathlib.Omega.{arith}
use Rattle.rule_index.specs.Found.{weight_of}
use Rattle.rule_index.proofs.scan.weight_of.Goals as goal

pub returns-in-Some : goal.returns-in-Some
unfolding weight_of
returns-in-Some c = rw c.in-Some.is (omega arith)

pub returns-in-None : goal.returns-in-None
unfolding weight_of
returns-in-None c = rw c.in-None.is

pub overflow_add-result : goal.overflow_add-result
unfolding weight_of
overflow_add-result c = let h = rw c.in-Some.is at c.requires in omega arith
