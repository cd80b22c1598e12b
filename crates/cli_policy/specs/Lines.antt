-- What is printed for a policy's check and for an RPC verdict, one fact a line.
use Rattle.std.specs.Prelude.{ℕ, [], ◌++◌}
use Rattle.limits.specs.Limits.{max_policy_string}
use Rattle.text.specs.String.{Str, bytes}
use Rattle.policy.specs.Policy.{policy_of}
use Rattle.policy_facts.specs.Facts.{listed_name}
use Rattle.policy_facts.specs.Facts.{Rules}
use Rattle.policy_facts.specs.Facts as rules
use Rattle.policy_facts.specs.declared.name.Listed.{Listed}
use Rattle.policy_facts.specs.declared.name.Listed.TheVariants.{Deny, Allow}
use Rattle.rpc.specs.Answer.{Verdict}
use Rattle.rpc.specs.Answer as verdict
use Rattle.text_make.specs.Text.{up_to, fact}

-- how many rules each list has; a refusal has words of its own
unfoldable pub count_lines : Rules → Str
count_lines (rules.Count deny allow) = fact (bytes "accepted\ndeny_rules ") deny ++ fact (bytes "allow_rules ") allow
count_lines (rules.Refused number) = []

-- an answer, and the number and the name of the rule that it is by: no string of a policy is longer
unfoldable pub by_rule : Str → Str → ℕ → Listed → Str
by_rule policy answer number rule = fact answer number ++ bytes "name " ++ up_to max_policy_string (listed_name (policy_of policy) rule) ++ bytes "\n"

-- the action, and the list, the number and the name of the deciding rule
unfoldable pub rpc_lines : Str → Verdict → Str
rpc_lines policy (verdict.Permitted n) = by_rule policy (bytes "permit\nlist allow_rules\nrule ") n (Allow n)
rpc_lines policy (verdict.Denied n) = by_rule policy (bytes "deny\nlist deny_rules\nrule ") n (Deny n)
rpc_lines policy verdict.Default = bytes "deny\ndefault\n"
rpc_lines policy (verdict.Refused number) = []
