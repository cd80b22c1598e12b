-- The answer of the tree verdict.
use Rattle.std.specs.Prelude.{ℕ}
use Rattle.table.specs.declared.RuleNumber.{RuleNumber}

pub data TreeAnswer : Type 0 where
  All : TreeAnswer
  None : TreeAnswer
  Mixed : RuleNumber → TreeAnswer
  Refused : (number line : ℕ) → TreeAnswer
