-- The answer of the single-path verdict.
use Rattle.std.specs.Prelude.{ℕ}
use Rattle.table.specs.declared.RuleNumber.{RuleNumber}

pub data PathAnswer : Type 0 where
  Permit : RuleNumber → PathAnswer
  Deny : RuleNumber → PathAnswer
  -- no rule matches: deny
  Default : PathAnswer
  Refused : (number line : ℕ) → PathAnswer
