-- The answer of a count of a user's groups. Declined: the table's refusal, or 20 with line 0 for the user.
use Rattle.std.specs.Prelude.{ℕ, Option, Some, None, Result, Ok, Err}
use Rattle.refusal.specs.Refusal.{number}
use Rattle.refusal.specs.declared.fault.Fault.{Fault}
use Rattle.table.specs.declared.GroupNumber.{GroupNumber}
use Rattle.table.specs.declared.Groups.{Groups}

pub data Counted : Type 0 where
  Count : ℕ → GroupNumber → Counted
  NoGroup : Counted
  Declined : ℕ → ℕ → Counted

-- what a program answers
abbrev pub counted_as : Result (Option Groups) Fault → Counted
counted_as (Ok (Some g)) = Count g.count g.first
counted_as (Ok None) = NoGroup
counted_as (Err f) = Declined (number f.refusal) f.line
