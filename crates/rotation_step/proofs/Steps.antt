-- The refusal of each call, and the step that it takes.
use Rattle.std.proofs.Common.{◌≡◌, ℕ, true, false, Option, Some, None, Ok, Err, ◌∙◌, sym, refl, arith, eq-eqb}
use borrow.Author.Tests.{ne_eqb}
use Rattle.text.specs.Refusal.{◌when◌else◌, clear}
use Rattle.text.specs.Test.{whether◌then◌else◌}
use Rattle.text.proofs.Tests.{by, clash}
use Rattle.text.proofs.Choices.{when_true, when_false}
use Rattle.table.specs.Text.{unless}
use Rattle.table.specs.Checked.{Accepted}
use Rattle.refusal.specs.Refusal.{number, at_line}
use Rattle.refusal.specs.declared.Refusal.{Refusal}
use Rattle.refusal.proofs.Numbers.{never_clear}
use Rattle.rotation.specs.State.{given, length_of, on, off, short_store, bad_record, record_refusal}
use Rattle.rotation.specs.Calls.{start_refusal, off_refusal, no_candidate, finalize_refusal, stepped, step_of, started, finalized, closed, start, finalize, close}
use Rattle.rotation.specs.declared.Record.{Record}
use Rattle.rotation.proofs.Tests.{refused_own}

on_off : (r : Record) → on r ≡ true → off r ≡ false
unfolding on
on_off r e = by (off r) (λ t. clash e (rw t)) (λ t. t)

off_on : (r : Record) → on r ≡ false → off r ≡ true
unfolding on
off_on r e = by (off r) (λ t. t) (λ t. clash (rw t) e)

none_some : {X : Type 0} {x : Option ℕ} (len : ℕ) → x ≡ None → x ≡ Some len → X
none_some len e f = absurd (cc)

lacking : (r : Record) → length_of r.candidate_len ≡ None → no_candidate r ≡ true
unfolding length_of no_candidate
lacking r e = by (given r.candidate_len) (λ t. none_some r.candidate_len e (when_true _ _ t)) (λ t. rw t)

present : (r : Record) (len : ℕ) → length_of r.candidate_len ≡ Some len → no_candidate r ≡ false
unfolding length_of no_candidate
present r len e = by (given r.candidate_len) (λ t. rw t) (λ t. none_some len (when_false _ _ t) e)

pub length_is : (n len : ℕ) → length_of n ≡ Some len → len ≡ n
unfolding length_of
length_is n len e = by (given n) (λ t. let z : Some len ≡ Some n = sym e ∙ when_true _ _ t in cc) (λ t. none_some len (when_false _ _ t) e)

-- ---- the refusals

module _ (r : Record) (n : ℕ) (fine : clear ≡ record_refusal r n clear) where
  pub on_start : on r ≡ true → 12 ≡ start_refusal r n
  unfolding start_refusal
  on_start e = rw (when_true 12 clear e) (refused_own r n 12 fine)

  pub off_start : on r ≡ false → clear ≡ start_refusal r n
  unfolding start_refusal
  off_start e = rw (when_false 12 clear e) fine

  pub off_call : on r ≡ false → 13 ≡ off_refusal r n
  unfolding off_refusal
  off_call e = rw (when_true 13 clear (off_on r e)) (refused_own r n 13 fine)

  pub on_call : on r ≡ true → clear ≡ off_refusal r n
  unfolding off_refusal
  on_call e = rw (when_false 13 clear (on_off r e)) fine

module _ (r : Record) (n : ℕ) where
  -- what refuses upload and close refuses finalize, with the same number
  pub first_finalize : (k : ℕ) → k ≡ off_refusal r n → (k ≡ clear → ⊥) → k ≡ finalize_refusal r n
  unfolding off_refusal finalize_refusal record_refusal whether◌then◌else◌
  first_finalize k e h =
      by (short_store n) (λ t. e ∙ rw t)
      (λ t. by (bad_record r) (λ u. e ∙ rw (t, u)) (λ u. by (off r) (λ v. e ∙ rw (t, u, v)) (λ v. absurd (h (e ∙ rw (t, u, v))))))

  past_off : (own : ℕ) → clear ≡ off_refusal r n → record_refusal r n (13 when off r else own) ≡ own
  unfolding off_refusal record_refusal whether◌then◌else◌
  past_off own e =
      by (short_store n) (λ t. let z : ◌≡◌ {A = ℕ} clear 11 = e ∙ rw t in absurd (omega arith))
      (λ t. by (bad_record r) (λ u. let z : ◌≡◌ {A = ℕ} clear 15 = e ∙ rw (t, u) in absurd (omega arith))
      (λ u. by (off r) (λ v. let z : ◌≡◌ {A = ℕ} clear 13 = e ∙ rw (t, u, v) in absurd (omega arith)) (λ v. rw (t, u, v))))

  pub no_candidate_refused : clear ≡ off_refusal r n → length_of r.candidate_len ≡ None → 14 ≡ finalize_refusal r n
  unfolding finalize_refusal
  no_candidate_refused e c = sym (past_off _ e ∙ when_true 14 clear (lacking r c))

  pub candidate_fine : (len : ℕ) → clear ≡ off_refusal r n → length_of r.candidate_len ≡ Some len → clear ≡ finalize_refusal r n
  unfolding finalize_refusal
  candidate_fine len e c = sym (past_off _ e ∙ when_false 14 clear (present r len c))

-- ---- the steps

module _ (r next : Record) (k : ℕ) where
  err_step : (e : Refusal) → number e ≡ k → step_of r (Err (at_line e 0)) ≡ stepped (unless k 0 Accepted) r next
  unfolding stepped unless step_of
  err_step e h = rw (← h, when_false _ _ (ne_eqb (number e) clear (never_clear e)))

  ok_step : clear ≡ k → step_of r (Ok next) ≡ stepped (unless k 0 Accepted) r next
  unfolding stepped unless step_of
  ok_step h = rw (← h, when_true _ _ (eq-eqb clear clear refl))

module _ (r : Record) (n : ℕ) where
  pub start_err : (e : Refusal) → number e ≡ start_refusal r n → step_of r (Err (at_line e 0)) ≡ start r n
  unfolding start
  start_err e h = err_step r _ _ e h

  pub start_ok : (next : Record) → next ≡ started r → clear ≡ start_refusal r n → step_of r (Ok next) ≡ start r n
  unfolding start
  start_ok next f h = rw f (ok_step r _ _ h)

  pub finalize_err : (e : Refusal) → number e ≡ finalize_refusal r n → step_of r (Err (at_line e 0)) ≡ finalize r n
  unfolding finalize
  finalize_err e h = err_step r _ _ e h

  pub finalize_ok : (next : Record) → next ≡ finalized r → clear ≡ finalize_refusal r n → step_of r (Ok next) ≡ finalize r n
  unfolding finalize
  finalize_ok next f h = rw f (ok_step r _ _ h)

  pub close_err : (e : Refusal) → number e ≡ off_refusal r n → step_of r (Err (at_line e 0)) ≡ close r n
  unfolding close
  close_err e h = err_step r _ _ e h

  pub close_ok : (next : Record) → next ≡ closed r → clear ≡ off_refusal r n → step_of r (Ok next) ≡ close r n
  unfolding close
  close_ok next f h = rw f (ok_step r _ _ h)
