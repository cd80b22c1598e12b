-- The public calls: what each is given, the word that it answers, and what it leaves of what it is lent to store to. The contract of each exported
-- function says that it answers `word` and leaves `after` of its own constructor; what is demanded of every call is said of the same two.
use Rattle.std.specs.Prelude.{ℕ, [], length}
use Rattle.std.proofs.Math.Option.{Option, none, some}
use Rattle.text.specs.String.{Str}
use Rattle.path_read.specs.Calls.{bytes_for, text_for, answer, lent}
use Rattle.table.specs.Text.{check}
use Rattle.table.specs.Group.{group_count}
use Rattle.verdict_request.specs.Calls.{path_verdict, tree_verdict}
use Rattle.season.specs.Calls.{season_answer, season_lent}
use Rattle.policy.specs.Policy.{policy_refusal}
use Rattle.policy_check.specs.Answer.{check_of}
use Rattle.rpc.specs.Call.{rpc_verdict}
use Rattle.rotation.specs.Calls.{Stepped, start, upload, upload_store, finalize, close}
use Rattle.rotation.specs.declared.Record.{Record}
use Rattle.rotation_upload.specs.Offered.{offered_check}
use Rattle.rotation_probe.specs.Probe.{probe_path, probe_tree}
use Rattle.rotation_probe.specs.Rpc.{probe_rpc}
use Rattle.burgee.specs.Word.{filled_word, checked_word, counted_word, path_word, tree_word, reported_word, policy_word, rpc_word, rpc_probe_word}

-- every public call, with what it is given
pub data PublicCall : Type 0 where
  PathRead : (text out : Str) → PublicCall
  PathWrite : (bytes out : Str) → PublicCall
  TableCheck : (table : Str) → PublicCall
  GroupCount : (table user : Str) → PublicCall
  PathVerdict : (table user : Str) (mode : ℕ) (origin path : Str) → PublicCall
  TreeVerdict : (table user : Str) (mode : ℕ) (origin path : Str) → PublicCall
  SeasonReport : (table log out : Str) → PublicCall
  PolicyCheck : (policy : Str) → PublicCall
  RpcVerdict : (policy identity path headers : Str) → PublicCall
  Start : (rec : Record) (store : Str) → PublicCall
  Upload : (rec : Record) (store text : Str) → PublicCall
  Finalize : (rec : Record) (store : Str) → PublicCall
  Close : (rec : Record) (store : Str) → PublicCall
  ProbePath : (rec : Record) (store user : Str) (mode : ℕ) (origin path : Str) → PublicCall
  ProbeTree : (rec : Record) (store user : Str) (mode : ℕ) (origin path : Str) → PublicCall
  ProbeRpc : (rec : Record) (store identity path headers : Str) → PublicCall

-- the record of a probe's five numbers
abbrev pub record_of : ℕ → ℕ → ℕ → ℕ → ℕ → Record
record_of kind slot len rotating candidate = record { kind = kind; live_slot = slot; live_len = len; rotating = rotating; candidate_len = candidate }

-- what a call is lent to store to: a record, if there is one, and the bytes of a buffer or of a store
pub record Loan : Type 0 where
  pub rec : Option Record
  pub bytes : Str

-- everything lent is only read
abbrev nothing : Loan
nothing = record { rec = none; bytes = [] }

abbrev pub buffer : Str → Loan
buffer out = record { rec = none; bytes = out }

abbrev pub held : Record → Str → Loan
held rec store = record { rec = some rec; bytes = store }

-- the word that a call answers, and what it is lent to store to, before it and after it
pub record Outcome : Type 0 where
  pub word : ℕ
  pub before : Loan
  pub after : Loan

abbrev reading : ℕ → Outcome
reading word = record { word = word; before = nothing; after = nothing }

-- a buffer for a path result
abbrev filling : Str → Option Str → Outcome
filling out result = record { word = filled_word (answer out result); before = buffer out; after = buffer (lent out result) }

-- a step on a record; the store is left as `left`
abbrev stepping : Record → Str → Stepped → Str → Outcome
stepping rec store step left = record { word = checked_word step.answer; before = held rec store; after = held step.next left }

unfoldable pub outcome : PublicCall → Outcome
outcome (PathRead text out) = filling out (bytes_for text)
outcome (PathWrite bytes out) = filling out (text_for bytes)
outcome (TableCheck table) = reading (checked_word (check table))
outcome (GroupCount table user) = reading (counted_word (group_count table user))
outcome (PathVerdict table user mode origin path) = reading (path_word (path_verdict table user mode origin path))
outcome (TreeVerdict table user mode origin path) = reading (tree_word (tree_verdict table user mode origin path))
outcome (SeasonReport table log out) =
    record { word = reported_word (season_answer table log out); before = buffer out; after = buffer (season_lent table log out) }
outcome (PolicyCheck policy) = reading (policy_word (check_of (policy_refusal policy)))
outcome (RpcVerdict policy identity path headers) = reading (rpc_word (rpc_verdict policy identity path headers))
outcome (Start rec store) = stepping rec store (start rec (length store)) store
outcome (Upload rec store text) = stepping rec store (upload offered_check rec (length store) text) (upload_store offered_check rec store text)
outcome (Finalize rec store) = stepping rec store (finalize rec (length store)) store
outcome (Close rec store) = stepping rec store (close rec (length store)) store
outcome (ProbePath rec store user mode origin path) = reading (path_word (probe_path rec store user mode origin path))
outcome (ProbeTree rec store user mode origin path) = reading (tree_word (probe_tree rec store user mode origin path))
outcome (ProbeRpc rec store identity path headers) = reading (rpc_probe_word (probe_rpc rec store identity path headers))

abbrev pub word : PublicCall → ℕ
word c = (outcome c).word

abbrev pub before : PublicCall → Loan
before c = (outcome c).before

abbrev pub after : PublicCall → Loan
after c = (outcome c).after
