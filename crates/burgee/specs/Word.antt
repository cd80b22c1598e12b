-- The answer word: one 64-bit number for each answer of a call.
use Rattle.std.specs.Prelude.{ℕ, ◌+◌, ◌*◌, ◌%◌, ◌^◌}
use Rattle.path_read.specs.Filled.{Filled}
use Rattle.path_read.specs.Filled as filled
use Rattle.table.specs.Checked.{Checked}
use Rattle.table.specs.Checked as checked
use Rattle.table.specs.Counted.{Counted}
use Rattle.table.specs.Counted as counted
use Rattle.verdict_request.specs.PathAnswer.{PathAnswer}
use Rattle.verdict_request.specs.PathAnswer as path
use Rattle.verdict_request.specs.TreeAnswer.{TreeAnswer}
use Rattle.verdict_request.specs.TreeAnswer as trees
use Rattle.season.specs.declared.Reported.{Reported}
use Rattle.season.specs.declared.Reported.TheVariants as reported
use Rattle.policy_check.specs.Answer.{Check}
use Rattle.policy_check.specs.Answer as policy
use Rattle.rpc.specs.Answer.{Verdict}
use Rattle.rpc.specs.Answer as rpc
use Rattle.rotation_probe.specs.Answer.{RpcAnswer}
use Rattle.rotation_probe.specs.Answer as probe

-- bits 8 to 39
abbrev pub upper : ℕ → ℕ
upper n = n % 2 ^ 32 * 2 ^ 8

-- bits 8 to 15: an action, or how much of a tree is permitted
abbrev pub action_bits : ℕ → ℕ
action_bits n = n * 2 ^ 8

-- bits 16 to 31: the number of a group or a rule, plus 1; 0 stands there where none is named
abbrev pub number_bits : ℕ → ℕ
number_bits n = (n + 1) * 2 ^ 16

-- a refusal: bits 0 to 7 its number, bits 8 to 39 its line, which is 0 for a number that carries none
unfoldable pub refusal_word : ℕ → ℕ → ℕ
refusal_word number line = number + upper line

-- a path result: bits 8 to 39 its length
unfoldable pub filled_word : Filled → ℕ
filled_word (filled.Length n) = upper n
filled_word (filled.Refused number) = refusal_word number 0

-- a season report: bits 8 to 39 its length
unfoldable pub reported_word : Reported → ℕ
reported_word (reported.Length n) = upper n
reported_word (reported.Refused number line) = refusal_word number line

-- a table check, and each call on the record
unfoldable pub checked_word : Checked → ℕ
checked_word checked.Accepted = 0
checked_word (checked.Refused number line) = refusal_word number line

-- a user's groups: bits 8 to 15 their count, and the number of the first one
unfoldable pub counted_word : Counted → ℕ
counted_word (counted.Count n g) = n * 2 ^ 8 + number_bits g.0
counted_word counted.NoGroup = 0
counted_word (counted.Declined number line) = refusal_word number line

-- a path verdict: 0 deny, 1 permit, and the rule that decided
unfoldable pub path_word : PathAnswer → ℕ
path_word (path.Permit r) = action_bits 1 + number_bits r.0
path_word (path.Deny r) = number_bits r.0
path_word path.Default = 0
path_word (path.Refused number line) = refusal_word number line

-- a tree verdict: 0 NONE, 1 ALL, 2 MIXED, and with MIXED the rule that it names
unfoldable pub tree_word : TreeAnswer → ℕ
tree_word trees.All = action_bits 1
tree_word trees.None = 0
tree_word (trees.Mixed r) = action_bits 2 + number_bits r.0
tree_word (trees.Refused number line) = refusal_word number line

-- a policy check
unfoldable pub policy_word : Check → ℕ
policy_word policy.Accepted = 0
policy_word (policy.Refused number) = refusal_word number 0

-- an RPC verdict: 0 deny, 1 permit, and the rule in the list of that action; a list has at most 64 rules
unfoldable pub rpc_word : Verdict → ℕ
rpc_word (rpc.Refused number) = refusal_word number 0
rpc_word (rpc.Denied n) = number_bits (n % 2 ^ 16)
rpc_word (rpc.Permitted n) = action_bits 1 + number_bits (n % 2 ^ 16)
rpc_word rpc.Default = 0

-- an RPC probe: factory permits, and names no rule
unfoldable pub rpc_probe_word : RpcAnswer → ℕ
rpc_probe_word probe.PermitAll = action_bits 1
rpc_probe_word (probe.Judged v) = rpc_word v
