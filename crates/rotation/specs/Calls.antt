-- Start, upload, finalize and close: what each answers, and what it leaves of record and store.
use Rattle.std.specs.Prelude.{ℕ, Bool, not, eqb, length, Result, Ok, Err}
use Rattle.text.specs.String.{Str}
use Rattle.text.specs.Fill.{put}
use Rattle.text.specs.Refusal.{◌when◌else◌, clear}
use Rattle.table.specs.Text.{unless}
use Rattle.table.specs.Checked.{Checked}
use Rattle.table.specs.Checked.{Accepted, Refused}
use Rattle.rotation.specs.State.{no_length, given, off, on, record_refusal, slot_start, candidate_slot, at_rest}
use Rattle.rotation.specs.declared.Record.{Record}
use Rattle.refusal.specs.Refusal.{number}
use Rattle.refusal.specs.declared.fault.Fault.{Fault}

-- ---- the refusals of each call; n is the store's length

-- 12: "start while on"
unfoldable pub start_refusal : Record → ℕ → ℕ
start_refusal r n = record_refusal r n (12 when on r else clear)

-- 13: "upload, finalize or close while off"
unfoldable pub off_refusal : Record → ℕ → ℕ
off_refusal r n = record_refusal r n (13 when off r else clear)

unfoldable pub no_candidate : Record → Bool
no_candidate r = not (given r.candidate_len)

-- 14: "finalize without candidate"
unfoldable pub finalize_refusal : Record → ℕ → ℕ
finalize_refusal r n = record_refusal r n (13 when off r else 14 when no_candidate r else clear)

unfoldable pub other_kind : ℕ → Record → Bool
other_kind kind r = not (eqb r.kind kind)

-- 16: "RPC probe on a kind 2 record, path or tree probe on a kind 1 record"; the probe is for records of that kind
unfoldable pub probe_refusal : ℕ → Record → ℕ → ℕ
probe_refusal kind r n = record_refusal r n (16 when other_kind kind r else clear)

-- ---- the record that an accepted call leaves

-- "rotation on, no candidate"
unfoldable pub started : Record → Record
started r = record { kind = r.kind; live_slot = r.live_slot; live_len = r.live_len; rotating = 1; candidate_len = no_length }

-- "the candidate gets its length"
unfoldable pub uploaded : Record → ℕ → Record
uploaded r len = record { kind = r.kind; live_slot = r.live_slot; live_len = r.live_len; rotating = r.rotating; candidate_len = len }

-- "the candidate's slot and length become live, no candidate, rotation off"
unfoldable pub finalized : Record → Record
finalized r = at_rest r (candidate_slot r) r.candidate_len

-- "candidate dropped, rotation off"
unfoldable pub closed : Record → Record
closed r = at_rest r r.live_slot r.live_len

-- ---- the calls

-- what a call makes of a record, and what it answers
pub record Stepped : Type 0 where
  pub next : Record
  pub answer : Checked

-- as the programs have it: the next record, or the fault, which leaves the record r
unfoldable pub step_of : Record → Result Record Fault → Stepped
step_of r (Ok next) = record { next = next; answer = Accepted }
step_of r (Err f) = record { next = r; answer = Refused (number f.refusal) f.line }

-- what a call on the record r answers and leaves: `next` where it is accepted, and r where it is refused
unfoldable pub stepped : Checked → Record → Record → Stepped
stepped Accepted r next = record { next = next; answer = Accepted }
stepped (Refused n l) r next = record { next = r; answer = Refused n l }

unfoldable pub start : Record → ℕ → Stepped
start r n = stepped (unless (start_refusal r n) 0 Accepted) r (started r)

unfoldable pub finalize : Record → ℕ → Stepped
finalize r n = stepped (unless (finalize_refusal r n) 0 Accepted) r (finalized r)

unfoldable pub close : Record → ℕ → Stepped
close r n = stepped (unless (off_refusal r n) 0 Accepted) r (closed r)

-- "then the text offered": `check` judges a text, given the record's kind
module _ (check : ℕ → Str → Checked) where
  unfoldable pub upload_answer : Record → ℕ → Str → Checked
  upload_answer r n text = unless (off_refusal r n) 0 (check r.kind text)

  unfoldable pub upload : Record → ℕ → Str → Stepped
  upload r n text = stepped (upload_answer r n text) r (uploaded r (length text))

-- "stores exactly its bytes at the start of the slot that isn't live"; a refusal stores nothing
unfoldable pub stored_by : Checked → Record → Str → Str → Str
stored_by Accepted r store text = put store (slot_start (candidate_slot r)) text
stored_by (Refused n l) r store text = store

module _ (check : ℕ → Str → Checked) where
  -- the store that an upload leaves; no other call stores to it
  unfoldable pub upload_store : Record → Str → Str → Str
  upload_store r store text = stored_by (upload_answer check r (length store) text) r store text
