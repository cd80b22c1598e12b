-- The answer of a table check: accepted, or the first faulty line with its smallest number.
use Rattle.std.specs.Prelude.{ℕ, Result, Ok, Err}
use Rattle.refusal.specs.Refusal.{number}
use Rattle.refusal.specs.declared.fault.Fault.{Fault}

pub data Checked : Type 0 where
  Accepted : Checked
  Refused : ℕ → ℕ → Checked

-- what a program answers
abbrev pub checked_as : Result (Unit {0}) Fault → Checked
checked_as (Ok _) = Accepted
checked_as (Err f) = Refused (number f.refusal) f.line
