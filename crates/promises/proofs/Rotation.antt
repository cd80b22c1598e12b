-- The rotation's promise, kept.
use mathlib.Core.Path.{◌≡◌, refl, sym, ap, ◌∙◌}
use mathlib.Core.Bool.{Bool, true, false}
use mathlib.Core.List.{List, [], ◌∷◌}
use mathlib.Core.Option.{Option, none, some}
use Prim.Native.Nat.{ℕ}
use lib.ListN.{length}
use Rattle.text.specs.Test.{whether◌then◌else◌, absent}
use Rattle.text.specs.String.{Str}
use Rattle.text.specs.Fill.{put}
use Rattle.text.specs.Refusal.{◌when◌else◌, clear}
use Rattle.table.specs.Text.{unless, is_accepted}
use Rattle.table.specs.Checked.{Checked}
use Rattle.table.specs.Checked.{Accepted, Refused}
use Rattle.rotation.specs.State.{short_store, bad_record, record_refusal, slot_start, candidate_slot}
use Rattle.rotation.specs.Calls.{start_refusal, off_refusal, finalize_refusal, started, uploaded, finalized, closed, stepped, start, upload_answer, upload, stored_by, upload_store, finalize, close}
use Rattle.rotation.specs.Machine.{Call, Start, Upload, Finalize, Close, Machine, machine_refusal, machine_next, Lent, machine_of, Whole, offered, machine_answer, machine_step, answers, leaves, Follows, end}
use Rattle.rotation.specs.declared.Record.{Record}
use Rattle.rotation.proofs.Follows.{stepped_answer, follows, machine_end, same_end, machine_force, same_force}
use Rattle.rotation_upload.specs.Offered.{offered_check}
use Rattle.rotation_upload.proofs.Offered.{never, offered_short}
use Rattle.promises.specs.Rotation as promise
use Rattle.promises.specs.Rotation.{StepPromise, RotationPromise, Trying, live, force}

-- ---- one step

module _ (a : Checked) (r next : Record) where
  accepted_next : (stepped a r next).answer ≡ Accepted → (stepped a r next).next ≡ next
  unfolding stepped
  accepted_next e = let i : a ≡ Accepted = sym (stepped_answer a r next) ∙ e in rw i

  refused_next : (number line : ℕ) → (stepped a r next).answer ≡ Refused number line → (stepped a r next).next ≡ r
  unfolding stepped
  refused_next number line e = let i : a ≡ Refused number line = sym (stepped_answer a r next) ∙ e in rw i

  accepted_store : (store text : Str) → (stepped a r next).answer ≡ Accepted → stored_by a r store text ≡ put store (slot_start (candidate_slot r)) text
  unfolding stored_by
  accepted_store store text e = let i : a ≡ Accepted = sym (stepped_answer a r next) ∙ e in rw i

  refused_store : (store text : Str) (number line : ℕ) → (stepped a r next).answer ≡ Refused number line → stored_by a r store text ≡ store
  unfolding stored_by
  refused_store store text number line e = let i : a ≡ Refused number line = sym (stepped_answer a r next) ∙ e in rw i

-- the numbers that every call shares
module _ (r : Record) (n own : ℕ) (a : Checked) where
  eleven : short_store n ≡ true → unless (record_refusal r n own) 0 a ≡ Refused 11 0
  unfolding unless record_refusal whether◌then◌else◌
  eleven e = rw e

  fifteen : short_store n ≡ false → bad_record r ≡ true → unless (record_refusal r n own) 0 a ≡ Refused 15 0
  unfolding unless record_refusal whether◌then◌else◌
  fifteen e f = rw (e, f)

lent_same : (r s : Record) (x y : Str) → r ≡ s → x ≡ y → ◌≡◌ {A = Lent} (record { state = r; store = x }) (record { state = s; store = y })
lent_same r s x y e f = rw (e, f)

module _ (l : Lent) where
  on_start : answers offered_check Start l ≡ Accepted → leaves offered_check Start l ≡ record { state = started l.state; store = l.store }
  unfolding answers leaves start
  on_start e = lent_same _ _ _ _ (accepted_next _ _ _ e) refl

  on_finalize : answers offered_check Finalize l ≡ Accepted → leaves offered_check Finalize l ≡ record { state = finalized l.state; store = l.store }
  unfolding answers leaves finalize
  on_finalize e = lent_same _ _ _ _ (accepted_next _ _ _ e) refl

  on_close : answers offered_check Close l ≡ Accepted → leaves offered_check Close l ≡ record { state = closed l.state; store = l.store }
  unfolding answers leaves close
  on_close e = lent_same _ _ _ _ (accepted_next _ _ _ e) refl

  on_upload : (text : Str) → answers offered_check (Upload text) l ≡ Accepted
      → leaves offered_check (Upload text) l ≡ record { state = uploaded l.state (length text); store = put l.store (slot_start (candidate_slot l.state)) text }
  unfolding answers leaves upload upload_store
  on_upload text e = lent_same _ _ _ _ (accepted_next _ _ _ e) (accepted_store _ _ _ l.store text e)

  on_refusal : (c : Call) (number line : ℕ) → answers offered_check c l ≡ Refused number line → leaves offered_check c l ≡ l
  unfolding answers leaves start finalize close upload upload_store
  on_refusal Start number line e = lent_same _ _ _ _ (refused_next _ _ _ number line e) refl
  on_refusal (Upload text) number line e = lent_same _ _ _ _ (refused_next _ _ _ number line e) (refused_store _ _ _ l.store text number line e)
  on_refusal Finalize number line e = lent_same _ _ _ _ (refused_next _ _ _ number line e) refl
  on_refusal Close number line e = lent_same _ _ _ _ (refused_next _ _ _ number line e) refl

  on_short : (c : Call) → short_store (length l.store) ≡ true → answers offered_check c l ≡ Refused 11 0
  unfolding answers start upload upload_answer finalize close start_refusal off_refusal finalize_refusal
  on_short Start e = stepped_answer _ _ _ ∙ eleven l.state _ _ _ e
  on_short (Upload text) e = stepped_answer _ _ _ ∙ eleven l.state _ _ _ e
  on_short Finalize e = stepped_answer _ _ _ ∙ eleven l.state _ _ _ e
  on_short Close e = stepped_answer _ _ _ ∙ eleven l.state _ _ _ e

  on_bad : (c : Call) → short_store (length l.store) ≡ false → bad_record l.state ≡ true → answers offered_check c l ≡ Refused 15 0
  unfolding answers start upload upload_answer finalize close start_refusal off_refusal finalize_refusal
  on_bad Start e f = stepped_answer _ _ _ ∙ fifteen l.state _ _ _ e f
  on_bad (Upload text) e f = stepped_answer _ _ _ ∙ fifteen l.state _ _ _ e f
  on_bad Finalize e f = stepped_answer _ _ _ ∙ fifteen l.state _ _ _ e f
  on_bad Close e f = stepped_answer _ _ _ ∙ fifteen l.state _ _ _ e f

  pub step_promise : StepPromise l
  step_promise = record {
    start = on_start;
    upload = on_upload;
    finalize = on_finalize;
    close = on_close;
    short_store_lem = on_short;
    bad_record_lem = on_bad;
    refused = on_refusal;
  }

-- ---- the machine

-- what a step leaves live
if_live : (b : Bool) (m n : Machine) (x : Option Str) → m.live ≡ x → n.live ≡ x → (whether b then m else n).live ≡ x
unfolding whether◌then◌else◌
if_live true m n x e f = e
if_live false m n x e f = f

keeps_live : (cs : List Call) → Trying cs → (m : Machine) → (machine_end offered_check cs m).live ≡ m.live
unfolding machine_end machine_step machine_next
keeps_live [] promise.none m = refl
keeps_live (Start ∷ cs) (promise.start t) m = keeps_live cs t (machine_step offered_check Start m) ∙ if_live _ _ m m.live refl refl
keeps_live (Upload text ∷ cs) (promise.upload t) m = keeps_live cs t (machine_step offered_check (Upload text) m) ∙ if_live _ _ m m.live refl refl
keeps_live (Finalize ∷ cs) t m = elim t [ ]
keeps_live (Close ∷ cs) (promise.close t) m = keeps_live cs t (machine_step offered_check Close m) ∙ if_live _ _ m m.live refl refl

-- an accepted step
went : (c : Call) (m : Machine) → machine_answer offered_check c m ≡ Accepted → machine_step offered_check c m ≡ machine_next c m
unfolding machine_step is_accepted whether◌then◌else◌
went c m e = rw e

closed_force : (m : Machine) → machine_force (machine_next Close m) ≡ m.live
unfolding machine_force machine_next absent whether◌then◌else◌
closed_force m = refl

uploaded_force : (text : Str) (m : Machine) → machine_force (machine_next (Upload text) m) ≡ some text
unfolding machine_force machine_next absent whether◌then◌else◌
uploaded_force text m = refl

-- finalize is refused without a candidate
with_candidate : (r : Bool) (o : Option Str) (x : Option Str) → unless (13 when r else 14 when absent o else clear) 0 Accepted ≡ Accepted → o ≡ (whether absent o then x else o)
unfolding unless absent whether◌then◌else◌
with_candidate true o x e = never 13 0 e
with_candidate false none x e = never 14 0 e
with_candidate false (some text) x e = refl

finalized_live : (m : Machine) → machine_answer offered_check Finalize m ≡ Accepted → (machine_next Finalize m).live ≡ machine_force m
unfolding machine_answer machine_refusal offered machine_next machine_force
finalized_live m e = with_candidate _ m.candidate m.live e

-- ---- record and store

live_is : (l : Lent) → live l ≡ (machine_of l).live
unfolding machine_of
live_is l = refl

module _ (l : Lent) (w : Whole l) (cs : List Call) where
  abbrev at : Lent
  at = end offered_check cs l

  at_whole : Whole at
  at_whole = (same_end offered_check offered_short cs l w).1

  on_machine : (c : Call) → Follows offered_check c at
  on_machine c = follows offered_check offered_short c at at_whole

  -- what an accepted call leaves, as the machine has it
  moved : (c : Call) → answers offered_check c at ≡ Accepted → machine_of (leaves offered_check c at) ≡ machine_next c (machine_of at)
  moved c e = (on_machine c).same_next ∙ went c (machine_of at) (sym (on_machine c).same_answer ∙ e)

  stays : Trying cs → live at ≡ live l
  stays t = live_is at ∙ ap (λ (m : Machine). m.live) (same_end offered_check offered_short cs l w).0 ∙ keeps_live cs t (machine_of l) ∙ sym (live_is l)

  back : Trying cs → answers offered_check Close at ≡ Accepted → force (leaves offered_check Close at) ≡ live l
  back t e = same_force (leaves offered_check Close at) ∙ ap machine_force (moved Close e) ∙ closed_force (machine_of at) ∙ sym (live_is at) ∙ stays t

  tried : (text : Str) → answers offered_check (Upload text) at ≡ Accepted → force (leaves offered_check (Upload text) at) ≡ some text
  tried text e = same_force (leaves offered_check (Upload text) at) ∙ ap machine_force (moved (Upload text) e) ∙ uploaded_force text (machine_of at)

  settled : answers offered_check Finalize at ≡ Accepted → live (leaves offered_check Finalize at) ≡ force at
  settled e =
      live_is (leaves offered_check Finalize at) ∙ ap (λ (m : Machine). m.live) (moved Finalize e)
      ∙ finalized_live (machine_of at) (sym (on_machine Finalize).same_answer ∙ e) ∙ sym (same_force at)

pub rotation_promise : (l : Lent) (w : Whole l) → RotationPromise l w
rotation_promise l w = record {
  goes_on = at_whole l w;
  stays = stays l w;
  back = back l w;
  tried = tried l w;
  settled = settled l w;
  follows = on_machine l w;
}
