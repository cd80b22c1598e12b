-- Record and store follow the plain machine.
use mathlib.Core.Path.{◌≡◌, refl, sym, ap, ap₂, ◌∙◌}
use mathlib.Core.Bool.{Bool, true, false, not}
use mathlib.Core.List.{List, [], ◌∷◌}
use mathlib.Core.Option.{Option, some}
use Prim.Native.Nat.{ℕ, ◌≤◌}
use native.Mathlib.Omega.{arith}
use borrow.Author.Tests.{ne_eqb, eqb-true, eqb-false, ltb-false, le-ltb}
use lib.Dec.{eqb, ltb}
use lib.ListN.{length}
use Rattle.limits.specs.Limits.{slot_length, store_length}
use Rattle.text.specs.Test.{◌and◌, ◌or◌, whether◌then◌else◌, absent}
use Rattle.text.specs.String.{Str}
use Rattle.text.specs.Fill.{put}
use Rattle.text.specs.Refusal.{◌when◌else◌, clear}
use Rattle.text.proofs.Tests.{by, clash, or_false_l, or_false_r, and_false}
use Rattle.text.proofs.Filling.{put_length}
use Rattle.table.specs.Text.{unless, is_accepted}
use Rattle.table.specs.Checked.{Checked}
use Rattle.table.specs.Checked.{Accepted, Refused}
use Rattle.rotation.specs.State.{no_length, given, off, on, short_store, bad_kind, bad_slot, bad_length, bad_record, record_refusal, slot_start, candidate_slot, text_in, in_force, at_rest}
use Rattle.rotation.specs.Calls.{start_refusal, off_refusal, no_candidate, finalize_refusal, started, uploaded, finalized, closed, stepped, start, upload_answer, upload, stored_by, upload_store, finalize, close}
use Rattle.rotation.specs.Machine.{Call, Start, Upload, Finalize, Close, Machine, machine_refusal, machine_next, Lent, held_text, machine_of, force_text, Whole, offered, machine_answer, machine_step, answers, leaves, Follows, end}
use Rattle.rotation.specs.declared.Record.{Record}
use Rattle.rotation.proofs.Slots.{put_own, put_first, put_second}

not_not : (b : Bool) → not (not b) ≡ b
not_not true = refl
not_not false = refl

-- ---- a step, whatever was answered

pub stepped_answer : (a : Checked) (r next : Record) → (stepped a r next).answer ≡ a
unfolding stepped
stepped_answer Accepted r next = refl
stepped_answer (Refused n l) r next = refl

pub stepped_next : (a : Checked) (r next : Record) → (stepped a r next).next ≡ (whether is_accepted a then next else r)
unfolding stepped is_accepted whether◌then◌else◌
stepped_next Accepted r next = refl
stepped_next (Refused n l) r next = refl

pub stored_by_lem : (a : Checked) (r : Record) (store text : Str) → stored_by a r store text ≡ (whether is_accepted a then put store (slot_start (candidate_slot r)) text else store)
unfolding stored_by is_accepted whether◌then◌else◌
stored_by_lem Accepted r store text = refl
stored_by_lem (Refused n l) r store text = refl

accepted_is : (a : Checked) → is_accepted a ≡ true → a ≡ Accepted
unfolding is_accepted
accepted_is Accepted e = refl
accepted_is (Refused n l) e = clash e refl

-- what is accepted unless a number holds
pub unless_accepted : (number : ℕ) (a : Checked) → is_accepted (unless number 0 a) ≡ true → (number ≡ clear) × (a ≡ Accepted)
unfolding unless whether◌then◌else◌ is_accepted
unless_accepted number a e =
    by (eqb number clear)
    (λ t. (eqb-true number clear t, accepted_is a (rw t at e)))
    (λ t. clash (rw t at e) refl)

-- ---- a good record

module _ (r : Record) (good : bad_record r ≡ false) where
  tail_1 : (bad_slot r or (bad_length r.live_len or (bad_length r.candidate_len or (off r and given r.candidate_len)))) ≡ false
  unfolding bad_record
  tail_1 = or_false_r (bad_kind r) _ good

  tail_2 : (bad_length r.live_len or (bad_length r.candidate_len or (off r and given r.candidate_len))) ≡ false
  tail_2 = or_false_r (bad_slot r) _ tail_1

  tail_3 : (bad_length r.candidate_len or (off r and given r.candidate_len)) ≡ false
  tail_3 = or_false_r (bad_length r.live_len) _ tail_2

  good_kind : bad_kind r ≡ false
  unfolding bad_record
  good_kind = or_false_l (bad_kind r) _ good

  pub good_slot : bad_slot r ≡ false
  good_slot = or_false_l (bad_slot r) _ tail_1

  pub good_live : bad_length r.live_len ≡ false
  good_live = or_false_l (bad_length r.live_len) _ tail_2

  pub good_candidate : bad_length r.candidate_len ≡ false
  good_candidate = or_false_l (bad_length r.candidate_len) _ tail_3

pub length_short : (len : ℕ) → bad_length len ≡ false → given len ≡ true → len ≤ slot_length
unfolding bad_length
length_short len e g = ltb-false slot_length len (and_false (given len) _ g e)

pub slot_low : (r : Record) → bad_slot r ≡ false → given r.live_len ≡ true → r.live_slot ≤ 1
unfolding bad_slot
slot_low r e g = ltb-false 1 r.live_slot (and_false (given r.live_len) _ g e)

pub candidate_low : (r : Record) → candidate_slot r ≤ 1
unfolding candidate_slot whether◌then◌else◌
candidate_low r = by (given r.live_len and eqb r.live_slot 0) (λ t. rw t (omega arith)) (λ t. rw t (omega arith))

good_is : (a b c d : Bool) (e : Bool) → a ≡ false → b ≡ false → c ≡ false → d ≡ false → e ≡ false → (a or (b or (c or (d or e)))) ≡ false
unfolding ◌or◌
good_is a b c d e p q r s t = rw (p, q, r, s, t)

length_good : (len : ℕ) → len ≤ slot_length → bad_length len ≡ false
unfolding bad_length ◌and◌
length_good len h = by (given len) (λ t. rw t (le-ltb slot_length len h)) (λ t. rw t)

started_good : (r : Record) → bad_record r ≡ false → bad_record (started r) ≡ false
unfolding bad_record started bad_kind bad_slot bad_length given off ◌and◌
started_good r g = good_is _ _ _ _ _ (good_kind r g) (good_slot r g) (good_live r g) refl refl

closed_good : (r : Record) → bad_record r ≡ false → bad_record (closed r) ≡ false
unfolding bad_record closed at_rest bad_kind bad_slot bad_length given off ◌and◌
closed_good r g = good_is _ _ _ _ _ (good_kind r g) (good_slot r g) (good_live r g) refl refl

finalized_slot : (r : Record) → (given r.candidate_len and ltb 1 (candidate_slot r)) ≡ false
unfolding ◌and◌
finalized_slot r = by (given r.candidate_len) (λ t. rw t (le-ltb 1 (candidate_slot r) (candidate_low r))) (λ t. rw t)

finalized_good : (r : Record) → bad_record r ≡ false → bad_record (finalized r) ≡ false
unfolding bad_record finalized at_rest bad_kind bad_slot given off ◌and◌ bad_length
finalized_good r g = good_is _ _ _ _ _ (good_kind r g) (finalized_slot r) (good_candidate r g) refl refl

on_uploaded : (r : Record) (len : ℕ) → off r ≡ false → (off r and given len) ≡ false
unfolding ◌and◌
on_uploaded r len e = rw e

uploaded_good : (r : Record) (len : ℕ) → bad_record r ≡ false → off r ≡ false → len ≤ slot_length → bad_record (uploaded r len) ≡ false
unfolding bad_record uploaded bad_kind bad_slot off
uploaded_good r len g o h = good_is _ _ _ _ _ (good_kind r g) (good_slot r g) (good_live r g) (length_good len h) (on_uploaded r len o)

-- ---- the refusals, once 11 and 15 are out

module _ (l : Lent) (w : Whole l) where
  abbrev r : Record
  r = l.state

  abbrev n : ℕ
  n = length l.store

  own : (k : ℕ) → record_refusal r n k ≡ k
  unfolding record_refusal whether◌then◌else◌
  own k = rw (w.long, w.good)

  store_long : store_length ≤ n
  unfolding short_store
  store_long = ltb-false n store_length w.long

  start_number : start_refusal r n ≡ machine_refusal Start (machine_of l)
  unfolding start_refusal machine_refusal machine_of
  start_number = own _

  off_number : (c : Call) → machine_refusal c (machine_of l) ≡ (13 when not (on r) else clear) → off_refusal r n ≡ machine_refusal c (machine_of l)
  unfolding off_refusal on
  off_number c e = own _ ∙ sym (rw (not_not (off r)) at e)

  lacking_is : (store : Str) (slot len : ℕ) → absent (held_text store slot len) ≡ not (given len)
  unfolding absent held_text whether◌then◌else◌
  lacking_is store slot len = by (given len) (λ t. rw t) (λ t. rw t)

  finalize_number : finalize_refusal r n ≡ machine_refusal Finalize (machine_of l)
  unfolding finalize_refusal machine_refusal machine_of on no_candidate
  finalize_number = own _ ∙ rw (not_not (off r), lacking_is l.store (candidate_slot r) r.candidate_len)

-- ---- what a machine is left with

some_held : (store : Str) (slot len : ℕ) → len ≤ slot_length → held_text store slot len ≡ some (text_in store slot len)
unfolding held_text given whether◌then◌else◌
some_held store slot len h = rw (ne_eqb len no_length (λ e. omega arith))

machine_started : (l : Lent) → machine_of (record { state = started l.state; store = l.store }) ≡ machine_next Start (machine_of l)
unfolding machine_of machine_next started on off held_text given whether◌then◌else◌
machine_started l = refl

machine_closed : (l : Lent) → machine_of (record { state = closed l.state; store = l.store }) ≡ machine_next Close (machine_of l)
unfolding machine_of machine_next closed at_rest on off held_text given whether◌then◌else◌
machine_closed l = refl

machine_finalized : (l : Lent) → machine_of (record { state = finalized l.state; store = l.store }) ≡ machine_next Finalize (machine_of l)
unfolding machine_of machine_next finalized at_rest on off held_text given whether◌then◌else◌
machine_finalized l = refl

module _ (r : Record) (g : given r.live_len ≡ true) where
  candidate_one : eqb r.live_slot 0 ≡ true → candidate_slot r ≡ 1
  unfolding candidate_slot ◌and◌ whether◌then◌else◌
  candidate_one t = rw (g, t)

  candidate_zero : eqb r.live_slot 0 ≡ false → candidate_slot r ≡ 0
  unfolding candidate_slot ◌and◌ whether◌then◌else◌
  candidate_zero t = rw (g, t)

module _ (store text : Str) (long : store_length ≤ length store) (short : length text ≤ slot_length) (slot k len : ℕ) where
  kept_first : slot ≡ 0 → k ≡ 1 → len ≤ slot_length → text_in (put store (slot_start k) text) slot len ≡ text_in store slot len
  kept_first e f h = rw (e, f) (put_first store text long short len h)

  kept_second : slot ≡ 1 → k ≡ 0 → text_in (put store (slot_start k) text) slot len ≡ text_in store slot len
  kept_second e f = rw (e, f) (put_second store text long short len)

both_same : (kind : ℕ) (a b c d : Option Str) (o : Bool) → a ≡ b → c ≡ d → ◌≡◌ {A = Machine} (record { kind = kind; live = a; candidate = c; rotating = o }) (record { kind = kind; live = b; candidate = d; rotating = o })
both_same kind a b c d o e f = rw (e, f)

module _ (l : Lent) (w : Whole l) (text : Str) (short : length text ≤ slot_length) where
  abbrev live : ℕ
  live = l.state.live_len

  abbrev stored : Str
  stored = put l.store (slot_start (candidate_slot l.state)) text

  -- the live text stays
  live_text : given live ≡ true → text_in stored l.state.live_slot live ≡ text_in l.store l.state.live_slot live
  live_text g =
      by (eqb l.state.live_slot 0)
      (λ t. kept_first l.store text (store_long l w) short l.state.live_slot (candidate_slot l.state) live (eqb-true _ _ t) (candidate_one l.state g t) (length_short live (good_live l.state w.good) g))
      (λ t. let low = slot_low l.state (good_slot l.state w.good) g in
      let up = eqb-false _ _ t in
      kept_second l.store text (store_long l w) short l.state.live_slot (candidate_slot l.state) live (one l.state.live_slot low up) (candidate_zero l.state g t))
    where
      one : (k : ℕ) → k ≤ 1 → (k ≡ 0 → ⊥) → k ≡ 1
      one k h z = by (eqb k 0) (λ t. absurd (z (eqb-true k 0 t))) (λ t. let u : k ≡ 0 → ⊥ = z in omega arith)

  live_kept : held_text stored l.state.live_slot live ≡ held_text l.store l.state.live_slot live
  unfolding held_text whether◌then◌else◌
  live_kept = by (given live) (λ t. rw t (ap some (live_text t))) (λ t. rw t)

  own_held : (slot : ℕ) → slot ≡ candidate_slot l.state → held_text stored slot (length text) ≡ some text
  own_held slot e = some_held stored slot (length text) short ∙ rw e (ap some (put_own l.store text (store_long l w) short (candidate_slot l.state) (candidate_low l.state)))

  machine_uploaded : machine_of (record { state = uploaded l.state (length text); store = stored }) ≡ machine_next (Upload text) (machine_of l)
  unfolding machine_of machine_next uploaded on off candidate_slot
  machine_uploaded = both_same _ _ _ _ _ _ live_kept (own_held _ refl)

  stored_long : length stored ≡ length l.store
  stored_long = put_length l.store (slot_start (candidate_slot l.state)) text (let a = candidate_low l.state in let b = store_long l w in omega arith)

-- ---- the calls

-- a call that stores nothing to the slots
module _ (c : Call) (l : Lent) (w : Whole l) (a : Checked) (next : Record) where
  abbrev after : Lent
  after = record { state = (stepped a l.state next).next; store = l.store }

  plain_next : machine_of (record { state = next; store = l.store }) ≡ machine_next c (machine_of l) → machine_of after ≡ (whether is_accepted a then machine_next c (machine_of l) else machine_of l)
  unfolding whether◌then◌else◌
  plain_next moved = rw (stepped_next a l.state next) (by (is_accepted a) (λ t. rw t moved) (λ t. rw t))

  plain_good : bad_record next ≡ false → bad_record (stepped a l.state next).next ≡ false
  unfolding whether◌then◌else◌
  plain_good g = rw (stepped_next a l.state next) (by (is_accepted a) (λ t. rw t g) (λ t. rw t w.good))

  plain_whole : bad_record next ≡ false → Whole after
  plain_whole g = record { long = w.long; good = plain_good g }

module _ (l : Lent) (w : Whole l) where
  number_on : off_refusal l.state (length l.store) ≡ clear → off l.state ≡ false
  unfolding off_refusal whether◌then◌else◌
  number_on e = by (off l.state) (λ t. let z : ◌≡◌ {A = ℕ} 13 clear = sym (own l w 13) ∙ (rw t at e) in absurd (omega arith)) (λ t. t)

-- `check` accepts no text that is longer than a slot
module _ (check : ℕ → Str → Checked) (short : (kind : ℕ) (text : Str) → check kind text ≡ Accepted → length text ≤ slot_length) (l : Lent) (w : Whole l) where
  follows_start : Follows check Start l
  unfolding answers leaves start machine_answer machine_step offered
  follows_start = record {
    same_answer = stepped_answer _ _ _ ∙ ap (λ (k : ℕ). unless k 0 Accepted) (start_number l w);
    same_next = rw (← start_number l w) (plain_next Start l w _ (started l.state) (machine_started l));
    whole = plain_whole Start l w _ (started l.state) (started_good l.state w.good);
  }

  close_number : off_refusal l.state (length l.store) ≡ machine_refusal Close (machine_of l)
  unfolding machine_refusal machine_of
  close_number = off_number l w Close refl

  upload_number : (text : Str) → off_refusal l.state (length l.store) ≡ machine_refusal (Upload text) (machine_of l)
  unfolding machine_refusal machine_of
  upload_number text = off_number l w (Upload text) refl

  follows_close : Follows check Close l
  unfolding answers leaves close machine_answer machine_step offered
  follows_close = record {
    same_answer = stepped_answer _ _ _ ∙ ap (λ (k : ℕ). unless k 0 Accepted) close_number;
    same_next = rw (← close_number) (plain_next Close l w _ (closed l.state) (machine_closed l));
    whole = plain_whole Close l w _ (closed l.state) (closed_good l.state w.good);
  }

  follows_finalize : Follows check Finalize l
  unfolding answers leaves finalize machine_answer machine_step offered
  follows_finalize = record {
    same_answer = stepped_answer _ _ _ ∙ ap (λ (k : ℕ). unless k 0 Accepted) (finalize_number l w);
    same_next = rw (← finalize_number l w) (plain_next Finalize l w _ (finalized l.state) (machine_finalized l));
    whole = plain_whole Finalize l w _ (finalized l.state) (finalized_good l.state w.good);
  }

  module _ (text : Str) where
    abbrev a : Checked
    a = unless (off_refusal l.state (length l.store)) 0 (check l.state.kind text)

    abbrev uploads : Lent
    uploads = record { state = (stepped a l.state (uploaded l.state (length text))).next; store = stored_by a l.state l.store text }

    upload_kept : is_accepted a ≡ false → uploads ≡ l
    unfolding whether◌then◌else◌
    upload_kept t = rw (stepped_next a l.state (uploaded l.state (length text)), stored_by_lem a l.state l.store text, t)

    upload_went : is_accepted a ≡ true → uploads ≡ record { state = uploaded l.state (length text); store = put l.store (slot_start (candidate_slot l.state)) text }
    unfolding whether◌then◌else◌
    upload_went t = rw (stepped_next a l.state (uploaded l.state (length text)), stored_by_lem a l.state l.store text, t)

    upload_short : is_accepted a ≡ true → length text ≤ slot_length
    upload_short t = short l.state.kind text (unless_accepted _ _ t).1

    upload_next : machine_of uploads ≡ (whether is_accepted a then machine_next (Upload text) (machine_of l) else machine_of l)
    unfolding whether◌then◌else◌
    upload_next = by (is_accepted a) (λ t. ap machine_of (upload_went t) ∙ machine_uploaded l w text (upload_short t) ∙ rw t) (λ t. ap machine_of (upload_kept t) ∙ rw t)

    upload_whole : Whole uploads
    unfolding short_store
    upload_whole =
        by (is_accepted a)
        (λ t. rw (upload_went t)
        (record {
          long = ap (λ (n : ℕ). ltb n store_length) (stored_long l w text (upload_short t)) ∙ w.long;
          good = uploaded_good l.state (length text) w.good (number_on l w (unless_accepted _ _ t).0) (upload_short t);
        }))
        (λ t. rw (upload_kept t) w)

    offered_is : offered check (Upload text) (machine_of l).kind ≡ check l.state.kind text
    unfolding offered machine_of
    offered_is = refl

    follows_upload : Follows check (Upload text) l
    unfolding answers leaves upload upload_answer upload_store machine_answer machine_step
    follows_upload = record {
      same_answer = stepped_answer _ _ _ ∙ ap₂ (λ (k : ℕ) (c : Checked). unless k 0 c) (upload_number text) (sym offered_is);
      same_next = rw (← upload_number text, offered_is) upload_next;
      whole = upload_whole;
    }

module _ (check : ℕ → Str → Checked) where
  -- the machine after any number of calls
  unfoldable pub machine_end : List Call → Machine → Machine
  machine_end [] m = m
  machine_end (c ∷ cs) m = machine_end cs (machine_step check c m)

module _ (check : ℕ → Str → Checked) (short : (kind : ℕ) (text : Str) → check kind text ≡ Accepted → length text ≤ slot_length) where
  pub follows : (c : Call) (l : Lent) → Whole l → Follows check c l
  follows Start l w = follows_start check short l w
  follows (Upload text) l w = follows_upload check short l w text
  follows Finalize l w = follows_finalize check short l w
  follows Close l w = follows_close check short l w

  -- and so after any number of calls
  pub same_end : (cs : List Call) (l : Lent) → Whole l → (machine_of (end check cs l) ≡ machine_end check cs (machine_of l)) × Whole (end check cs l)
  unfolding end machine_end
  same_end [] l w = (refl, w)
  same_end (c ∷ cs) l w = let f = follows c l w in let g = same_end cs (leaves check c l) f.whole in (g.0 ∙ ap (machine_end check cs) f.same_next, g.1)

-- what is in force: "the candidate, else the live text", else none
unfoldable pub machine_force : Machine → Option Str
machine_force m = whether absent m.candidate then m.live else m.candidate

pub same_force : (l : Lent) → force_text l.store (in_force l.state) ≡ machine_force (machine_of l)
unfolding force_text in_force machine_force machine_of absent held_text whether◌then◌else◌
same_force l =
    by (given l.state.candidate_len) (λ t. rw t)
    (λ t. by (given l.state.live_len) (λ u. rw (t, u)) (λ u. rw (t, u)))
