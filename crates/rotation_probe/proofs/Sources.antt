-- An answer by where the text in force lies is the probe's answer.
use mathlib.Core.Path.{◌≡◌, refl, sym, ap, ◌∙◌}
use mathlib.Core.Bool.{false}
use Prim.Native.Nat.{ℕ, ◌+◌, ◌-◌, ◌≤◌}
use native.Mathlib.Omega.{arith}
use borrow.Author.Tests.{eq-eqb, ne_eqb, eqb-true, ltb-false}
use lib.Dec.{eqb}
use lib.ListN.{take, drop}
use Rattle.limits.specs.Limits.{slot_length, store_length}
use Rattle.text.specs.Test.{whether◌then◌else◌}
use Rattle.text.specs.String.{Str}
use Rattle.text.specs.Refusal.{clear}
use Rattle.text.proofs.Tests.{by}
use Rattle.text.proofs.Choices.{when_true}
use Rattle.std.specs.Prelude.{Option, Some, None, Result, Ok, Err}
use Rattle.refusal.specs.Refusal.{number}
use Rattle.refusal.specs.declared.Refusal.{Refusal}
use Rattle.refusal.proofs.Numbers.{never_clear}
use Rattle.rotation.specs.declared.SlotText.{SlotText}
use Rattle.rotation_probe.specs.declared.force.Part.{Part}
use Rattle.rotation.specs.State.{given, short_store, bad_record, record_refusal, slot_start, text_in, in_force, force_of}
use Rattle.rotation.specs.Calls.{probe_refusal}
use Rattle.rotation.specs.declared.Record.{Record}
use Rattle.rotation.specs.State.{InForce}
use Rattle.rotation.specs.State as force
use Rattle.rotation.proofs.Follows.{length_short, slot_low, candidate_low, good_slot, good_live, good_candidate}
use Rattle.rotation_probe.specs.Probe.{probed}
use Rattle.rotation_probe.specs.Source.{Source, Refused, Factory, Lies, placed, source_of, source_as}

-- ---- what a program answers by the source

module _ {A : Type 0} (refused : ℕ → A) (part : ℕ → ℕ → A) (factory : A) where
  unfoldable pub from : Source → A
  from (Refused number) = refused number
  from (Lies start end) = part start end
  from Factory = factory

module _ {A : Type 0} (refused : ℕ → A) (judged : InForce → A) (part : ℕ → ℕ → A) (same : (slot len : ℕ) → part (slot_start slot) (slot_start slot + len) ≡ judged (force.Text slot len)) where
  by_place : (f : InForce) → from refused part (judged force.Factory) (placed f) ≡ judged f
  unfolding from placed
  by_place (force.Text slot len) = same slot len
  by_place force.Factory = refl

  by_source : (kind : ℕ) (r : Record) (n : ℕ) → from refused part (judged force.Factory) (source_of kind r n) ≡ probed refused judged kind r n
  unfolding source_of probed whether◌then◌else◌ from
  by_source kind r n = by (eqb (probe_refusal kind r n) clear) (λ t. rw t (by_place (in_force r))) (λ t. rw t)

  -- s is what was found
  pub answers : (kind : ℕ) (r : Record) (n : ℕ) (s : Source) → s ≡ source_of kind r n → (a : A) → a ≡ from refused part (judged force.Factory) s → a ≡ probed refused judged kind r n
  answers kind r n s e a k = k ∙ ap (from refused part (judged force.Factory)) e ∙ by_source kind r n

-- the part of the store that is lent on
pub part_is : (store : Str) (slot len : ℕ) → take (slot_start slot + len - slot_start slot) (drop (slot_start slot) store) ≡ text_in store slot len
unfolding text_in
part_is store slot len = let e : slot_start slot + len - slot_start slot ≡ len = omega arith in rw e

-- ---- the source itself

module _ (kind : ℕ) (r : Record) (n : ℕ) where
  pub source_refused : (e : Refusal) → number e ≡ probe_refusal kind r n → Refused (number e) ≡ source_of kind r n
  unfolding source_of probed whether◌then◌else◌
  source_refused e h = rw (← h, ne_eqb (number e) clear (never_clear e))

  source_placed : clear ≡ probe_refusal kind r n → placed (in_force r) ≡ source_of kind r n
  unfolding source_of probed
  source_placed e = rw (← e, when_true _ _ (eq-eqb clear clear refl))

  module _ (e : clear ≡ probe_refusal kind r n) (f : Option SlotText) (i : force_of f ≡ in_force r) where
    pub source_factory : f ≡ None → Factory ≡ source_of kind r n
    unfolding placed
    source_factory j = ap (λ (x : Option SlotText). placed (force_of x)) (sym j) ∙ ap placed i ∙ source_placed e

    pub source_part : (t : SlotText) → f ≡ Some t → (start : ℕ) → start ≡ slot_start t.slot → Lies start (start + t.len) ≡ source_of kind r n
    unfolding placed
    source_part t j start k =
        ap (λ (x : ℕ). Lies x (x + t.len)) k ∙ ap (λ (x : Option SlotText). placed (force_of x)) (sym j) ∙ ap placed i ∙ source_placed e

  -- as the programs find it
  module _ (x : Result (Option Part) Refusal) (e : source_as x ≡ source_of kind r n) where
    pub lies : (o : Option Part) (p : Part) → x ≡ Ok o → o ≡ Some p → Lies p.start p.end ≡ source_of kind r n
    lies o p f g = sym (ap source_as (f ∙ ap Ok g)) ∙ e

    pub factory : (o : Option Part) → x ≡ Ok o → o ≡ None → Factory ≡ source_of kind r n
    factory o f g = sym (ap source_as (f ∙ ap Ok g)) ∙ e

    pub refused : (w : Refusal) → x ≡ Err w → Refused (number w) ≡ source_of kind r n
    refused w f = sym (ap source_as f) ∙ e

-- ---- it lies within the store

module _ (r : Record) (n own : ℕ) (e : record_refusal r n own ≡ clear) where
  not_short : short_store n ≡ false
  unfolding record_refusal whether◌then◌else◌
  not_short = by (short_store n) (λ t. let z : ◌≡◌ {A = ℕ} 11 clear = rw t at e in absurd (omega arith)) (λ t. t)

  not_bad : bad_record r ≡ false
  unfolding record_refusal whether◌then◌else◌
  not_bad = by (bad_record r) (λ t. let z : ◌≡◌ {A = ℕ} 15 clear = rw (not_short, t) at e in absurd (omega arith)) (λ t. t)

  store_long : store_length ≤ n
  unfolding short_store
  store_long = ltb-false n store_length not_short

-- a part within n bytes
abbrev Within : ℕ → Source → Type 0
Within n (Refused number) = Unit {0}
Within n (Lies start end) = (start ≤ end) × (end ≤ n)
Within n Factory = Unit {0}

place_within : (n slot len : ℕ) → store_length ≤ n → slot ≤ 1 → len ≤ slot_length → Within n (placed (force.Text slot len))
unfolding placed
place_within n slot len h i j = (omega arith, omega arith)

force_within : (r : Record) (n : ℕ) → store_length ≤ n → bad_record r ≡ false → Within n (placed (in_force r))
unfolding in_force whether◌then◌else◌ placed
force_within r n h g =
    by (given r.candidate_len) (λ t. rw t (place_within n _ _ h (candidate_low r) (length_short _ (good_candidate r g) t)))
    (λ t. by (given r.live_len) (λ u. rw (t, u) (place_within n _ _ h (slot_low r (good_slot r g) u) (length_short _ (good_live r g) u))) (λ u. rw (t, u) tt))

source_within : (kind : ℕ) (r : Record) (n : ℕ) → Within n (source_of kind r n)
unfolding source_of probed whether◌then◌else◌ probe_refusal
source_within kind r n =
    by (eqb (probe_refusal kind r n) clear)
    (λ t. let c = eqb-true (probe_refusal kind r n) clear t in rw t (force_within r n (store_long r n _ c) (not_bad r n _ c)))
    (λ t. rw t tt)

pub part_within : (kind : ℕ) (r : Record) (n start end : ℕ) → Lies start end ≡ source_of kind r n → (start ≤ end) × (end ≤ n)
part_within kind r n start end h = let w = source_within kind r n in rw (← h) at w
