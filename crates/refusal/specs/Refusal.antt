-- Reasons and their numbers.
use Rattle.std.specs.Prelude.{ℕ, Result, Ok, Err}
use Rattle.text.specs.Refusal.{clear}
use Rattle.refusal.specs.declared.Refusal.{Refusal}
use Rattle.refusal.specs.declared.Refusal.TheVariants as why
use Rattle.refusal.specs.declared.fault.Fault.{Fault}

-- "refused by its number"
abbrev pub number : Refusal → ℕ
number why.TableTooLong = 1
number why.NotHexLine = 2
number why.BadFrame = 3
number why.OutOfOrder = 4
number why.LimitPassed = 5
number why.StrayByte = 6
number why.MisplacedWildcard = 7
number why.Repeated = 8
number why.UnlistedGroup = 9
number why.ShortStore = 11
number why.RotationOn = 12
number why.RotationOff = 13
number why.NoCandidate = 14
number why.BadRecord = 15
number why.OtherKind = 16
number why.BadUserOrMode = 20
number why.BadOrigin = 21
number why.BadPath = 22
number why.NoRoom = 23
number why.PolicyTooLong = 30
number why.NotJson = 31
number why.RepeatedMember = 32
number why.NotSchema = 33
number why.Backslash = 34
number why.BadSize = 35
number why.MisplacedAsterisk = 36
number why.BadHeaderKey = 37
number why.RepeatedRuleName = 38
number why.BadCaller = 40
number why.BadHeaders = 41
number why.LogTooLong = 50
number why.BadLogLine = 51

-- the number that a check answers with, `clear` where it refuses nothing
abbrev pub code : Result (Unit {0}) Refusal → ℕ
code (Ok _) = clear
code (Err r) = number r

-- a refusal that is about a line
abbrev pub at_line : Refusal → ℕ → Fault
at_line r n = record { refusal = r; line = n }
