-- A plain machine that has only its kind, a live text, a candidate and whether a rotation is on; and that record and store follow it step by step.
use Rattle.std.specs.Prelude.{ℕ, ◌≡◌, Bool, true, false, not, List, [], ◌∷◌, length}
use Rattle.std.proofs.Math.Option.{Option, none, some}
use Rattle.text.specs.Test.{whether◌then◌else◌, absent}
use Rattle.text.specs.String.{Str}
use Rattle.text.specs.Refusal.{◌when◌else◌, clear}
use Rattle.table.specs.Text.{unless, is_accepted}
use Rattle.table.specs.Checked.{Checked}
use Rattle.table.specs.Checked.{Accepted}
use Rattle.rotation.specs.State.{given, on, short_store, bad_record, candidate_slot, text_in, InForce, Text, Factory}
use Rattle.rotation.specs.Calls.{start, upload, upload_store, finalize, close}
use Rattle.rotation.specs.declared.Record.{Record}

pub data Call : Type 0 where
  Start : Call
  Upload : Str → Call
  Finalize : Call
  Close : Call

-- ---- the machine

-- its texts are whole; `none` is no text
pub record Machine : Type 0 where
  pub kind : ℕ
  pub live : Option Str
  pub candidate : Option Str
  pub rotating : Bool

-- 12, 13 and 14
unfoldable pub machine_refusal : Call → Machine → ℕ
machine_refusal Start m = 12 when m.rotating else clear
machine_refusal (Upload text) m = 13 when not m.rotating else clear
machine_refusal Finalize m = 13 when not m.rotating else 14 when absent m.candidate else clear
machine_refusal Close m = 13 when not m.rotating else clear

-- what an accepted call leaves
unfoldable pub machine_next : Call → Machine → Machine
machine_next Start m = record { kind = m.kind; live = m.live; candidate = none; rotating = true }
machine_next (Upload text) m = record { kind = m.kind; live = m.live; candidate = some text; rotating = m.rotating }
machine_next Finalize m = record { kind = m.kind; live = m.candidate; candidate = none; rotating = false }
machine_next Close m = record { kind = m.kind; live = m.live; candidate = none; rotating = false }

-- ---- record and store

-- what is lent to a call
pub record Lent : Type 0 where
  pub state : Record
  pub store : Str

-- the text of a slot; none where there is no length
unfoldable pub held_text : Str → ℕ → ℕ → Option Str
held_text store slot len = whether given len then some (text_in store slot len) else none

-- the machine that record and store stand for
unfoldable pub machine_of : Lent → Machine
machine_of l = record {
  kind = l.state.kind;
  live = held_text l.store l.state.live_slot l.state.live_len;
  candidate = held_text l.store (candidate_slot l.state) l.state.candidate_len;
  rotating = on l.state;
}

-- the text in force; none for factory
unfoldable pub force_text : Str → InForce → Option Str
force_text store (Text slot len) = some (text_in store slot len)
force_text store Factory = none

-- neither 11 nor 15
pub record Whole (l : Lent) : Type 0 where
  pub long : short_store (length l.store) ≡ false
  pub good : bad_record l.state ≡ false

-- `check` judges a text, given the record's kind
module _ (check : ℕ → Str → Checked) where
  -- the judgement of what a call offers: only an upload offers a text
  unfoldable pub offered : Call → ℕ → Checked
  offered Start kind = Accepted
  offered (Upload text) kind = check kind text
  offered Finalize kind = Accepted
  offered Close kind = Accepted

  unfoldable pub machine_answer : Call → Machine → Checked
  machine_answer c m = unless (machine_refusal c m) 0 (offered c m.kind)

  unfoldable pub machine_step : Call → Machine → Machine
  machine_step c m = whether is_accepted (machine_answer c m) then machine_next c m else m

  -- what a call answers and leaves, by the definitions that its contract cites
  unfoldable pub answers : Call → Lent → Checked
  answers Start l = (start l.state (length l.store)).answer
  answers (Upload text) l = (upload check l.state (length l.store) text).answer
  answers Finalize l = (finalize l.state (length l.store)).answer
  answers Close l = (close l.state (length l.store)).answer

  unfoldable pub leaves : Call → Lent → Lent
  leaves Start l = record { state = (start l.state (length l.store)).next; store = l.store }
  leaves (Upload text) l = record { state = (upload check l.state (length l.store) text).next; store = upload_store check l.state l.store text }
  leaves Finalize l = record { state = (finalize l.state (length l.store)).next; store = l.store }
  leaves Close l = record { state = (close l.state (length l.store)).next; store = l.store }

  -- record and store answer as the machine does, and go on standing for it
  pub record Follows (c : Call) (l : Lent) : Type 0 where
    pub same_answer : answers c l ≡ machine_answer c (machine_of l)
    pub same_next : machine_of (leaves c l) ≡ machine_step c (machine_of l)
    pub whole : Whole (leaves c l)

  -- after any number of calls
  unfoldable pub end : List Call → Lent → Lent
  end [] l = l
  end (c ∷ cs) l = end cs (leaves c l)
