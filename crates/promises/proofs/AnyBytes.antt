-- Demand 1, kept: a refusal leaves what was lent.
use Prim.Native.Nat.{ℕ, ◌%◌, ◌^◌}
use mathlib.Core.Path.{◌≡◌, refl}
use mathlib.Core.Option.{Option, none, some}
use native.Mathlib.Omega.{arith}
use lib.Dec.{leb}
use lib.ListN.{length}
use Rattle.text.specs.Test.{whether◌then◌else◌}
use Rattle.text.specs.String.{Str}
use Rattle.text.proofs.Tests.{by}
use Rattle.path_read.specs.Calls.{bytes_for, text_for, answer, lent}
use Rattle.table.specs.Checked.{Checked}
use Rattle.table.specs.Checked.{Accepted, Refused}
use Rattle.season.specs.Calls.{fault, report_of, answered, stored, season_answer, season_lent}
use Rattle.rotation.specs.Calls.{stepped, start, upload, stored_by, upload_store, finalize, close}
use Rattle.rotation.specs.declared.Record.{Record}
use Rattle.burgee.specs.Word.{upper, filled_word, reported_word, checked_word}
use Rattle.burgee.specs.Calls.{buffer, held, PathRead, PathWrite, TableCheck, GroupCount, PathVerdict, TreeVerdict, SeasonReport, PolicyCheck, RpcVerdict, Start, Upload, Finalize, Close, ProbePath, ProbeTree, ProbeRpc, outcome}
use Rattle.promises.specs.AnyBytes.{AnyBytes}

-- a length's word has nothing in bits 0 to 7
length_word : (n : ℕ) → upper n % 2 ^ 8 ≡ 0
length_word n = omega arith

bytes_kept : (out : Str) (o : Option Str) → (filled_word (answer out o) % 2 ^ 8 ≡ 0 → ⊥) → lent out o ≡ out
unfolding answer lent filled_word whether◌then◌else◌
bytes_kept out none bad = refl
bytes_kept out (some s) bad = by (leb (length s) (length out)) (λ t. absurd ((rw t at bad) (length_word (length s)))) (λ t. rw t)

report_kept : (c : Checked) (text out : Str) → (reported_word (answered c text out) % 2 ^ 8 ≡ 0 → ⊥) → stored c text out ≡ out
unfolding answered stored reported_word whether◌then◌else◌
report_kept (Refused n l) text out bad = refl
report_kept Accepted text out bad = by (leb (length text) (length out)) (λ t. absurd ((rw t at bad) (length_word (length text)))) (λ t. rw t)

record_kept : (a : Checked) (r next : Record) → (checked_word (stepped a r next).answer % 2 ^ 8 ≡ 0 → ⊥) → (stepped a r next).next ≡ r
unfolding stepped checked_word
record_kept Accepted r next bad = absurd (bad refl)
record_kept (Refused n l) r next bad = refl

store_kept : (a : Checked) (r next : Record) (store text : Str) → (checked_word (stepped a r next).answer % 2 ^ 8 ≡ 0 → ⊥) → stored_by a r store text ≡ store
unfolding stepped stored_by checked_word
store_kept Accepted r next store text bad = absurd (bad refl)
store_kept (Refused n l) r next store text bad = refl

out_kept : (x y : Str) → x ≡ y → buffer x ≡ buffer y
out_kept x y e = rw e

both_kept : (r s : Record) (x y : Str) → r ≡ s → x ≡ y → held r x ≡ held s y
both_kept r s x y e f = rw (e, f)

pub any_bytes : AnyBytes
unfolding outcome season_answer season_lent start upload upload_store finalize close
any_bytes (PathRead text out) bad = out_kept _ _ (bytes_kept out (bytes_for text) bad)
any_bytes (PathWrite bytes out) bad = out_kept _ _ (bytes_kept out (text_for bytes) bad)
any_bytes (TableCheck table) bad = refl
any_bytes (GroupCount table user) bad = refl
any_bytes (PathVerdict table user mode origin path) bad = refl
any_bytes (TreeVerdict table user mode origin path) bad = refl
any_bytes (SeasonReport table log out) bad = out_kept _ _ (report_kept (fault table log) (report_of table log) out bad)
any_bytes (PolicyCheck policy) bad = refl
any_bytes (RpcVerdict policy identity path headers) bad = refl
any_bytes (Start rec store) bad = both_kept _ _ _ _ (record_kept _ _ _ bad) refl
any_bytes (Upload rec store text) bad = both_kept _ _ _ _ (record_kept _ _ _ bad) (store_kept _ _ _ store text bad)
any_bytes (Finalize rec store) bad = both_kept _ _ _ _ (record_kept _ _ _ bad) refl
any_bytes (Close rec store) bad = both_kept _ _ _ _ (record_kept _ _ _ bad) refl
any_bytes (ProbePath rec store user mode origin path) bad = refl
any_bytes (ProbeTree rec store user mode origin path) bad = refl
any_bytes (ProbeRpc rec store identity path headers) bad = refl
