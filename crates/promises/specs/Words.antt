-- The answer word read back: the header's readers, as definitions, give each call's answer from its word, and of a refusal they give the safe value.
-- So nothing of an answer is left out of its word, no two answers of a call share one, and nothing else stands in it: the answer determines the word.
use Rattle.std.specs.Prelude.{ℕ, zero, suc, ◌+◌, ◌*◌, ◌/◌, ◌%◌, ◌^◌, ◌≡◌, Bool, false, eqb, leb}
use Rattle.std.proofs.Math.Option.{Option, none, some}
use Rattle.text.specs.Test.{◌and◌, ◌or◌, whether◌then◌else◌}
use Rattle.text.specs.String.{Str}
use Rattle.path_read.specs.Calls.{bytes_for, text_for, answer}
use Rattle.path_read.specs.Filled.{Filled}
use Rattle.path_read.specs.Filled as filled
use Rattle.table.specs.Text.{check}
use Rattle.table.specs.Group.{group_count}
use Rattle.table.specs.Checked.{Checked}
use Rattle.table.specs.Checked as checked
use Rattle.table.specs.Counted.{Counted}
use Rattle.table.specs.Counted as counted
use Rattle.verdict_request.specs.Calls.{path_verdict, tree_verdict}
use Rattle.verdict_request.specs.PathAnswer.{PathAnswer}
use Rattle.verdict_request.specs.PathAnswer as path
use Rattle.verdict_request.specs.TreeAnswer.{TreeAnswer}
use Rattle.verdict_request.specs.TreeAnswer as trees
use Rattle.season.specs.Calls.{season_answer}
use Rattle.season.specs.declared.Reported.{Reported}
use Rattle.season.specs.declared.Reported.TheVariants as reported
use Rattle.policy.specs.Policy.{policy_refusal}
use Rattle.policy_check.specs.Answer.{check_of}
use Rattle.policy_check.specs.Answer.{Check}
use Rattle.policy_check.specs.Answer as policy
use Rattle.rpc.specs.Call.{rpc_verdict}
use Rattle.rpc.specs.Answer.{Verdict}
use Rattle.rpc.specs.Answer as rpc
use Rattle.rotation.specs.Machine.{Call, Lent, answers}
use Rattle.rotation.specs.declared.Record.{Record}
use Rattle.rotation_upload.specs.Offered.{offered_check}
use Rattle.rotation_probe.specs.Probe.{probe_path, probe_tree}
use Rattle.rotation_probe.specs.Rpc.{probe_rpc}
use Rattle.rotation_probe.specs.Answer.{RpcAnswer}
use Rattle.rotation_probe.specs.Answer as probe
use Rattle.burgee.specs.Calls.{PathRead, PathWrite, TableCheck, GroupCount, PathVerdict, TreeVerdict, SeasonReport, PolicyCheck, RpcVerdict, word}
use Rattle.burgee.specs.Calls.{ProbePath, ProbeTree, ProbeRpc}
use Rattle.promises.specs.Leaves.{publicly}

-- ---- the header's readers

-- burgee_answer_refusal: 0 where the call was not refused
abbrev pub refusal : ℕ → ℕ
refusal w = w % 2 ^ 8

-- burgee_answer_line: with numbers 1 to 9, and 51
unfoldable pub line : ℕ → ℕ
line w = whether leb 1 (refusal w) and leb (refusal w) 9 or eqb (refusal w) 51 then w / 2 ^ 8 % 2 ^ 32 else 0

-- burgee_answer_accepted: the bits from 8 on; 0 of a refusal
unfoldable pub accepted : ℕ → ℕ
accepted w = whether eqb (refusal w) 0 then w / 2 ^ 8 else 0

-- burgee_answer_length
abbrev pub filled_length : ℕ → ℕ
filled_length w = accepted w % 2 ^ 32

-- burgee_answer_group_count
abbrev pub count : ℕ → ℕ
count w = accepted w % 2 ^ 8

-- burgee_is_permitted
abbrev pub permitted : ℕ → Bool
permitted w = eqb (accepted w % 2 ^ 8) 1

-- burgee_answer_action: 0 deny, 1 permit
abbrev pub action : ℕ → ℕ
action w = whether permitted w then 1 else 0

-- burgee_answer_tree: 0 NONE, 1 ALL, 2 MIXED
unfoldable pub tree : ℕ → ℕ
tree w = whether leb (accepted w % 2 ^ 8) 2 then accepted w % 2 ^ 8 else 0

-- one less; none for 0, where C has -1
unfoldable pub less_one : ℕ → Option ℕ
less_one zero = none
less_one (suc n) = some n

-- burgee_answer_rule, burgee_answer_first_group
unfoldable pub number : ℕ → Option ℕ
number w = less_one (accepted w / 2 ^ 8 % 2 ^ 16)

-- ---- an answer as the readers tell it; none where their parts are no answer's, or the word has more than these

unfoldable pub only_if : {A : Type 0} → Bool → Option A → Option A
only_if b a = whether b then a else none

-- by whether the call was refused; `parts` is what the readers read of the bits from 8 on
abbrev told : {A : Type 0} → A → Option A → ℕ → ℕ → Option A
told refused given parts w =
    whether eqb (refusal w) 0 then only_if (eqb (accepted w) parts) given else only_if (eqb w (refusal w + line w * 2 ^ 8)) (some refused)

-- the parts of a byte and a number
unfoldable pub beside : ℕ → Option ℕ → ℕ
beside a none = a
beside a (some n) = a + suc n * 2 ^ 8

abbrev pub told_filled : ℕ → Option Filled
told_filled w = told (filled.Refused (refusal w)) (some (filled.Length (filled_length w))) (filled_length w) w

abbrev pub told_checked : ℕ → Option Checked
told_checked w = told (checked.Refused (refusal w) (line w)) (some checked.Accepted) 0 w

unfoldable pub counted_by : ℕ → Option ℕ → Option Counted
counted_by n none = only_if (eqb n 0) (some counted.NoGroup)
counted_by n (some g) = some (counted.Count n (record { 0 = g }))

abbrev pub told_counted : ℕ → Option Counted
told_counted w = told (counted.Declined (refusal w) (line w)) (counted_by (count w) (number w)) (beside (count w) (number w)) w

unfoldable pub path_by : Bool → Option ℕ → Option PathAnswer
path_by permits none = whether permits then none else some path.Default
path_by permits (some r) = some (whether permits then path.Permit (record { 0 = r }) else path.Deny (record { 0 = r }))

abbrev pub told_path : ℕ → Option PathAnswer
told_path w = told (path.Refused (refusal w) (line w)) (path_by (permitted w) (number w)) (beside (action w) (number w)) w

unfoldable pub tree_by : ℕ → Option ℕ → Option TreeAnswer
tree_by n none = whether eqb n 0 then some trees.None else whether eqb n 1 then some trees.All else none
tree_by n (some r) = whether eqb n 2 then some (trees.Mixed (record { 0 = r })) else none

abbrev pub told_tree : ℕ → Option TreeAnswer
told_tree w = told (trees.Refused (refusal w) (line w)) (tree_by (tree w) (number w)) (beside (tree w) (number w)) w

abbrev pub told_reported : ℕ → Option Reported
told_reported w = told (reported.Refused (refusal w) (line w)) (some (reported.Length (filled_length w))) (filled_length w) w

abbrev pub told_policy : ℕ → Option Check
told_policy w = told (policy.Refused (refusal w)) (some policy.Accepted) 0 w

abbrev by_rule : Bool → ℕ → Verdict
by_rule permits r = whether permits then rpc.Permitted r else rpc.Denied r

unfoldable pub rpc_by : Bool → Option ℕ → Option Verdict
rpc_by permits none = whether permits then none else some rpc.Default
rpc_by permits (some r) = some (by_rule permits r)

abbrev pub told_rpc : ℕ → Option Verdict
told_rpc w = told (rpc.Refused (refusal w)) (rpc_by (permitted w) (number w)) (beside (action w) (number w)) w

-- a permit that names no rule is factory's
unfoldable pub probe_by : Bool → Option ℕ → Option RpcAnswer
probe_by permits none = some (whether permits then probe.PermitAll else probe.Judged rpc.Default)
probe_by permits (some r) = some (probe.Judged (by_rule permits r))

abbrev pub told_probe : ℕ → Option RpcAnswer
told_probe w = told (probe.Judged (rpc.Refused (refusal w))) (probe_by (permitted w) (number w)) (beside (action w) (number w)) w

-- ---- the promise

-- each call's answer, from its word
pub record Words : Type 0 where
  pub path_read : (text out : Str) → told_filled (word (PathRead text out)) ≡ some (answer out (bytes_for text))
  pub path_write : (bytes out : Str) → told_filled (word (PathWrite bytes out)) ≡ some (answer out (text_for bytes))
  pub table_check : (table : Str) → told_checked (word (TableCheck table)) ≡ some (check table)
  pub group_count_lem : (table user : Str) → told_counted (word (GroupCount table user)) ≡ some (group_count table user)
  pub path_verdict_lem : (table user : Str) (mode : ℕ) (origin path : Str)
      → told_path (word (PathVerdict table user mode origin path)) ≡ some (path_verdict table user mode origin path)
  pub tree_verdict_lem : (table user : Str) (mode : ℕ) (origin path : Str)
      → told_tree (word (TreeVerdict table user mode origin path)) ≡ some (tree_verdict table user mode origin path)
  pub season_report : (table log out : Str) → told_reported (word (SeasonReport table log out)) ≡ some (season_answer table log out)
  pub policy_check : (policy : Str) → told_policy (word (PolicyCheck policy)) ≡ some (check_of (policy_refusal policy))
  pub rpc_verdict_lem : (policy identity path headers : Str)
      → told_rpc (word (RpcVerdict policy identity path headers)) ≡ some (rpc_verdict policy identity path headers)
  pub stepped : (c : Call) (l : Lent) → told_checked (word (publicly c l)) ≡ some (answers offered_check c l)
  pub probe_path_lem : (rec : Record) (store user : Str) (mode : ℕ) (origin path : Str)
      → told_path (word (ProbePath rec store user mode origin path)) ≡ some (probe_path rec store user mode origin path)
  pub probe_tree_lem : (rec : Record) (store user : Str) (mode : ℕ) (origin path : Str)
      → told_tree (word (ProbeTree rec store user mode origin path)) ≡ some (probe_tree rec store user mode origin path)
  pub probe_rpc_lem : (rec : Record) (store identity path headers : Str)
      → told_probe (word (ProbeRpc rec store identity path headers)) ≡ some (probe_rpc rec store identity path headers)

-- of a refusal every reader gives the safe value: deny, NONE, no rule, no group, 0
pub record Safe (w : ℕ) (refused : refusal w ≡ 0 → ⊥) : Type 0 where
  pub denies : permitted w ≡ false
  pub none_of_tree : tree w ≡ 0
  pub unnumbered : number w ≡ none
  pub uncounted : count w ≡ 0
  pub unfilled : filled_length w ≡ 0
