-- A record that is refused before the call's own number counts.
use Rattle.std.proofs.Common.{◌≡◌, ℕ, ◌∙◌, arith}
use Rattle.text.specs.Refusal.{clear}
use Rattle.text.specs.Test.{whether◌then◌else◌}
use Rattle.text.proofs.Tests.{by}
use Rattle.rotation.specs.State.{short_store, bad_record, record_refusal}
use Rattle.rotation.specs.Calls.{other_kind, probe_refusal}
use borrow.Author.Tests.{eq-eqb, ne_eqb}
use Rattle.rotation.specs.declared.Record.{Record}

module _ (r : Record) (n : ℕ) where
  pub refused_first : (k own : ℕ) → k ≡ record_refusal r n clear → (k ≡ clear → ⊥) → k ≡ record_refusal r n own
  unfolding record_refusal whether◌then◌else◌
  refused_first k own e h =
      by (short_store n) (λ t. e ∙ rw t) (λ t. by (bad_record r) (λ u. e ∙ rw (t, u)) (λ u. absurd (h (e ∙ rw (t, u)))))

  pub refused_own : (own : ℕ) → clear ≡ record_refusal r n clear → own ≡ record_refusal r n own
  unfolding record_refusal whether◌then◌else◌
  refused_own own e =
      by (short_store n) (λ t. let z : ◌≡◌ {A = ℕ} clear 11 = e ∙ rw t in absurd (omega arith))
      (λ t. by (bad_record r) (λ u. let z : ◌≡◌ {A = ℕ} clear 15 = e ∙ rw (t, u) in absurd (omega arith)) (λ u. rw (t, u)))

  pub other_refused : (kind : ℕ) → (r.kind ≡ kind → ⊥) → clear ≡ record_refusal r n clear → 16 ≡ probe_refusal kind r n
  unfolding probe_refusal other_kind whether◌then◌else◌
  other_refused kind d e = rw (ne_eqb r.kind kind d) (refused_own 16 e)

  pub kind_refused : (kind k : ℕ) → k ≡ record_refusal r n clear → (k ≡ clear → ⊥) → k ≡ probe_refusal kind r n
  unfolding probe_refusal
  kind_refused kind k e h = refused_first k _ e h

  pub not_refused : (kind : ℕ) → r.kind ≡ kind → clear ≡ record_refusal r n clear → clear ≡ probe_refusal kind r n
  unfolding probe_refusal other_kind whether◌then◌else◌
  not_refused kind d e = rw (eq-eqb r.kind kind d) e

pub ruleset refused = (other_refused, not_refused)
