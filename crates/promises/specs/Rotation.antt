-- Demand 2, of the rotation: every accepted step leaves exactly the record and slots that 01 names; whatever is tried, the old live text is still
-- there byte for byte until a finalize, and close brings it back in force.
-- The definitions named here are those of the contracts of `burgee_start`, `burgee_upload`, `burgee_finalize` and `burgee_close`: `answers` and
-- `leaves` say what each answers and leaves, for all records, stores and texts; `offered_check` judges a text offered.
use Rattle.std.specs.Prelude.{ℕ, ◌≡◌, true, false, List, [], ◌∷◌, length}
use Rattle.std.proofs.Math.Option.{Option, some}
use Rattle.text.specs.String.{Str}
use Rattle.text.specs.Fill.{put}
use Rattle.table.specs.Checked.{Accepted, Refused}
use Rattle.rotation.specs.State.{short_store, bad_record, slot_start, candidate_slot, in_force}
use Rattle.rotation.specs.Calls.{started, uploaded, finalized, closed}
use Rattle.rotation.specs.Machine.{Call, Start, Upload, Finalize, Close, Lent, held_text, force_text, Whole, answers, leaves, Follows, end}
use Rattle.rotation_upload.specs.Offered.{offered_check}

-- ---- one step

-- a record and a store, any that are lent
pub record StepPromise (l : Lent) : Type 0 where
  pub start : answers offered_check Start l ≡ Accepted → leaves offered_check Start l ≡ record { state = started l.state; store = l.store }
  pub upload : (text : Str) → answers offered_check (Upload text) l ≡ Accepted
      → leaves offered_check (Upload text) l
      ≡ record { state = uploaded l.state (length text); store = put l.store (slot_start (candidate_slot l.state)) text }
  pub finalize : answers offered_check Finalize l ≡ Accepted → leaves offered_check Finalize l ≡ record { state = finalized l.state; store = l.store }
  pub close : answers offered_check Close l ≡ Accepted → leaves offered_check Close l ≡ record { state = closed l.state; store = l.store }
  -- 11, then 15, before anything else (12 to 14 and the refusal of a text: `follows` below)
  pub short_store_lem : (c : Call) → short_store (length l.store) ≡ true → answers offered_check c l ≡ Refused 11 0
  pub bad_record_lem : (c : Call) → short_store (length l.store) ≡ false → bad_record l.state ≡ true → answers offered_check c l ≡ Refused 15 0
  -- a refused call leaves the record and every byte of the store as they stood
  pub refused : (c : Call) (number line : ℕ) → answers offered_check c l ≡ Refused number line → leaves offered_check c l ≡ l

-- ---- any number of steps

-- calls without a finalize
pub data Trying : List Call → Type 0 where
  none : Trying []
  start : {cs : List Call} → Trying cs → Trying (Start ∷ cs)
  upload : {cs : List Call} {text : Str} → Trying cs → Trying (Upload text ∷ cs)
  close : {cs : List Call} → Trying cs → Trying (Close ∷ cs)

-- the live text, and the text in force
abbrev pub live : Lent → Option Str
live l = held_text l.store l.state.live_slot l.state.live_len

abbrev pub force : Lent → Option Str
force l = force_text l.store (in_force l.state)

-- a record and a store that neither 11 nor 15 refuses, and any calls on them
pub record RotationPromise (l : Lent) (whole : Whole l) : Type 0 where
  -- the calls go on from a record and a store that are not refused either
  pub goes_on : (cs : List Call) → Whole (end offered_check cs l)
  -- until a finalize the live text stays, byte for byte
  pub stays : (cs : List Call) → Trying cs → live (end offered_check cs l) ≡ live l
  -- and close brings it back in force
  pub back : (cs : List Call) → Trying cs
      → answers offered_check Close (end offered_check cs l) ≡ Accepted → force (leaves offered_check Close (end offered_check cs l)) ≡ live l
  -- a text that was uploaded is in force, the first as well as every later one
  pub tried : (cs : List Call) (text : Str)
      → answers offered_check (Upload text) (end offered_check cs l) ≡ Accepted
      → force (leaves offered_check (Upload text) (end offered_check cs l)) ≡ some text
  -- and finalize makes live what was in force
  pub settled : (cs : List Call)
      → answers offered_check Finalize (end offered_check cs l) ≡ Accepted
      → live (leaves offered_check Finalize (end offered_check cs l)) ≡ force (end offered_check cs l)
  -- record and store follow a machine that has only a kind, a live text, a candidate and an on-or-off flag
  pub follows : (cs : List Call) (c : Call) → Follows offered_check c (end offered_check cs l)
