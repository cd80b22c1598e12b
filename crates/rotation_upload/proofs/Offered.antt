-- An accepted text fits its slot; what an upload answers, leaves of the record and stores.
use mathlib.Core.Path.{◌≡◌, refl, ap, ◌∙◌}
use Rattle.refusal.specs.Refusal.{number}
use Rattle.refusal.specs.declared.Refusal.{Refusal}
use Rattle.refusal.specs.declared.fault.Fault.{Fault}
use Rattle.std.specs.Prelude.{Ok, Err}
use Rattle.refusal.proofs.Numbers.{never_clear}
use Prim.Native.Nat.{ℕ, ◌+◌, ◌≤◌}
use native.Mathlib.Omega.{arith}
use borrow.Author.Tests.{eq-eqb, ne_eqb, eqb-true, ltb-false}
use lib.Dec.{eqb, ltb}
use lib.ListN.{length}
use Rattle.limits.specs.Limits.{max_table_text, max_policy_text, slot_length, store_length}
use Rattle.text.specs.Test.{whether◌then◌else◌}
use Rattle.text.specs.String.{Str}
use Rattle.text.specs.Fill.{put}
use Rattle.text.specs.Refusal.{clear}
use Rattle.text.proofs.Tests.{by}
use Rattle.table.specs.Text.{unless, check}
use Rattle.table.specs.Checked.{Checked, checked_as}
use Rattle.table.specs.Checked.{Accepted, Refused}
use Rattle.policy.specs.Policy.{policy_refusal}
use Rattle.policy_check.specs.Answer.{check_of}
use Rattle.rotation.specs.State.{short_store, record_refusal, slot_start, candidate_slot}
use Rattle.rotation.specs.Calls.{off_refusal, uploaded, Stepped, stepped, step_of, upload_answer, upload, stored_by, upload_store}
use Rattle.rotation.specs.declared.Record.{Record}
use Rattle.rotation.proofs.Follows.{candidate_low}
use Rattle.rotation_upload.specs.Offered.{of_policy, offered_check}

pub accepted_is : Accepted ≡ of_policy (check_of clear)
unfolding of_policy check_of whether◌then◌else◌
accepted_is = refl

pub refused_is : (r : Refusal) → Refused (number r) 0 ≡ of_policy (check_of (number r))
unfolding of_policy check_of whether◌then◌else◌
refused_is r = rw (ne_eqb (number r) clear (λ e. never_clear r e))

pub never : {X : Type 0} (n l : ℕ) → Refused n l ≡ Accepted → X
never n l e = let z : ◌≡◌ {A = ℕ} 0 1 = cc in absurd (omega arith)

table_short : (text : Str) → check text ≡ Accepted → length text ≤ max_table_text
unfolding check whether◌then◌else◌
table_short text e = by (ltb max_table_text (length text)) (λ t. never 1 0 (rw t at e)) (λ t. ltb-false max_table_text (length text) t)

of_policy_accepted : (n : ℕ) → of_policy (check_of n) ≡ Accepted → n ≡ clear
unfolding of_policy check_of whether◌then◌else◌
of_policy_accepted n e = by (eqb n clear) (λ t. eqb-true n clear t) (λ t. never n 0 (rw t at e))

policy_short : (text : Str) → policy_refusal text ≡ clear → length text ≤ max_policy_text
unfolding policy_refusal whether◌then◌else◌
policy_short text e = by (ltb max_policy_text (length text)) (λ t. let z : ◌≡◌ {A = ℕ} 30 clear = rw t at e in absurd (omega arith)) (λ t. ltb-false max_policy_text (length text) t)

pub offered_short : (kind : ℕ) (text : Str) → offered_check kind text ≡ Accepted → length text ≤ slot_length
unfolding offered_check whether◌then◌else◌
offered_short kind text e =
    by (eqb kind 1)
    (λ t. let h : length text ≤ max_policy_text = policy_short text (of_policy_accepted (policy_refusal text) (rw t at e)) in omega arith)
    (λ t. table_short text (rw t at e))

-- ---- the check

module _ (kind : ℕ) (text : Str) (c : Checked) where
  pub offered_policy : (n : ℕ) → kind ≡ 1 → n ≡ policy_refusal text → c ≡ of_policy (check_of n) → c ≡ offered_check kind text
  unfolding offered_check whether◌then◌else◌
  offered_policy n k e f = f ∙ rw (eq-eqb kind 1 k, e)

  pub offered_table : (kind ≡ 1 → ⊥) → c ≡ check text → c ≡ offered_check kind text
  unfolding offered_check whether◌then◌else◌
  offered_table k e = e ∙ rw (ne_eqb kind 1 k)

-- ---- the upload

module _ (r : Record) (n : ℕ) (text : Str) where
  pub answer_refused : (number : ℕ) → number ≡ off_refusal r n → (number ≡ clear → ⊥) → Refused number 0 ≡ upload_answer offered_check r n text
  unfolding upload_answer unless whether◌then◌else◌
  answer_refused number e h = rw (← e, ne_eqb number clear h)

  pub answer_offered : (number : ℕ) (c : Checked) → number ≡ off_refusal r n → number ≡ clear → c ≡ offered_check r.kind text → c ≡ upload_answer offered_check r n text
  unfolding upload_answer unless whether◌then◌else◌
  answer_offered number c e h f = rw (← e, eq-eqb number clear h) f

  -- an accepted upload has room
  accepted_long : (number : ℕ) (c : Checked) → unless number 0 c ≡ Accepted → (number ≡ clear) × (c ≡ Accepted)
  unfolding unless whether◌then◌else◌
  accepted_long number c e = by (eqb number clear) (λ t. (eqb-true number clear t, rw t at e)) (λ t. never number 0 (rw t at e))

  long_store : (own : ℕ) → record_refusal r n own ≡ clear → store_length ≤ n
  unfolding record_refusal short_store whether◌then◌else◌
  long_store own e = by (ltb n store_length) (λ t. let z : ◌≡◌ {A = ℕ} 11 clear = rw t at e in absurd (omega arith)) (λ t. ltb-false n store_length t)

  upload_long : upload_answer offered_check r n text ≡ Accepted → store_length ≤ n
  unfolding upload_answer off_refusal
  upload_long e = long_store _ (accepted_long _ _ e).0

  pub upload_short : upload_answer offered_check r n text ≡ Accepted → length text ≤ slot_length
  unfolding upload_answer
  upload_short e = offered_short r.kind text (accepted_long _ _ e).1

  pub upload_room : (slot start : ℕ) → slot ≡ candidate_slot r → start ≡ slot_start slot → upload_answer offered_check r n text ≡ Accepted → start + slot_length ≤ n
  upload_room slot start e f a = let low : slot ≤ 1 = rw e (candidate_low r) in omega (arith, f, upload_long a)

-- a step, by its answer
pub step_refused : (r : Record) (f : Fault) (c : Checked) → c ≡ checked_as (Err f) → step_of r (Err f) ≡ stepped c r r
unfolding stepped step_of
step_refused r f c e = rw e

pub step_accepted : (r next : Record) (c : Checked) → c ≡ Accepted → step_of r (Ok next) ≡ stepped c r next
unfolding stepped step_of
step_accepted r next c e = rw e

-- what is left after a refusal, and after an accepted upload
module _ (r : Record) (store text : Str) (c : Checked) (answered : c ≡ upload_answer offered_check r (length store) text) where
  refusal_keeps : (c : Checked) (next : Record) (number line : ℕ) → c ≡ Refused number line → stepped c r r ≡ stepped c r next
  unfolding stepped
  refusal_keeps c next number line e = rw e

  refusal_stores : (c : Checked) (number line : ℕ) → c ≡ Refused number line → store ≡ stored_by c r store text
  unfolding stored_by
  refusal_stores c number line e = rw e

  pub upload_refused : (s : Stepped) (number line : ℕ) → c ≡ Refused number line → s ≡ stepped c r r → (s ≡ upload offered_check r (length store) text) × (store ≡ upload_store offered_check r store text)
  unfolding upload upload_store
  upload_refused s number line e f =
      (f ∙ refusal_keeps c _ number line e ∙ ap (λ (k : Checked). stepped k r (uploaded r (length text))) answered, refusal_stores c number line e ∙ ap (λ (k : Checked). stored_by k r store text) answered)

  put_stores : (c : Checked) → c ≡ Accepted → put store (slot_start (candidate_slot r)) text ≡ stored_by c r store text
  unfolding stored_by
  put_stores c e = rw e

  pub upload_accepted : (s : Stepped) (next : Record) (slot start : ℕ) (after : Str)
      → c ≡ Accepted → slot ≡ candidate_slot r → start ≡ slot_start slot → next ≡ uploaded r (length text) → s ≡ stepped c r next → after ≡ put store start text
      → (s ≡ upload offered_check r (length store) text) × (after ≡ upload_store offered_check r store text)
  unfolding upload upload_store
  upload_accepted s next slot start after e f k g h i =
      (h ∙ rw g (ap (λ (k : Checked). stepped k r (uploaded r (length text))) answered), i ∙ rw (k, f) (put_stores c e ∙ ap (λ (k : Checked). stored_by k r store text) answered))
