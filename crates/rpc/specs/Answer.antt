-- The answer of an RPC verdict: a refusal with its number; denied or permitted by the rule with that number in its list; or denied by default.
use Rattle.std.specs.Prelude.{ℕ, Result, Ok, Err}
use Rattle.refusal.specs.Refusal.{number}
use Rattle.refusal.specs.declared.Refusal.{Refusal}
use Rattle.rpc.specs.declared.verdict.Verdict.{Verdict as Decision}
use Rattle.rpc.specs.declared.verdict.Verdict.TheVariants as decision

pub data Verdict : Type 0 where
  Refused : ℕ → Verdict
  Denied : ℕ → Verdict
  Permitted : ℕ → Verdict
  Default : Verdict

-- what a program's value says
abbrev pub decision_of : Decision → Verdict
decision_of (decision.Denied n) = Denied n
decision_of (decision.Permitted n) = Permitted n
decision_of decision.Default = Default

abbrev pub answer_of : Result Decision Refusal → Verdict
answer_of (Ok d) = decision_of d
answer_of (Err r) = Refused (number r)
