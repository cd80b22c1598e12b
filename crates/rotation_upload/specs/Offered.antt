-- "Upload checks the whole text": by its record's kind (1 policy, 2 table).
use Rattle.std.specs.Prelude.{ℕ, eqb}
use Rattle.text.specs.Test.{whether◌then◌else◌}
use Rattle.text.specs.String.{Str}
use Rattle.table.specs.Text.{check}
use Rattle.table.specs.Checked.{Checked}
use Rattle.table.specs.Checked as checked
use Rattle.policy.specs.Policy.{policy_refusal}
use Rattle.policy_check.specs.Answer.{check_of}
use Rattle.policy_check.specs.Answer.{Check}
use Rattle.policy_check.specs.Answer as policy

-- a policy's refusal carries no line
unfoldable pub of_policy : Check → Checked
of_policy policy.Accepted = checked.Accepted
of_policy (policy.Refused n) = checked.Refused n 0

-- a text offered to a record of that kind
unfoldable pub offered_check : ℕ → Str → Checked
offered_check kind text = whether eqb kind 1 then of_policy (check_of (policy_refusal text)) else check text
