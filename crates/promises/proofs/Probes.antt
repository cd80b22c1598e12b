-- The probes' promise, kept.
use mathlib.Core.Path.{◌≡◌, refl, ap, ◌∙◌}
use mathlib.Core.Bool.{true, false}
use mathlib.Core.Option.{none, some}
use Prim.Native.Nat.{ℕ}
use native.Mathlib.Omega.{arith}
use lib.ListN.{length}
use borrow.Author.Tests.{eq-eqb, ne_eqb}
use Rattle.text.specs.Test.{whether◌then◌else◌}
use Rattle.text.specs.String.{Str}
use Rattle.text.specs.Refusal.{clear}
use Rattle.verdict_request.specs.Calls.{decided_by, path_answer, spread, tree_answer}
use Rattle.rotation.specs.State.{given, short_store, bad_record, record_refusal, candidate_slot, text_in, in_force}
use Rattle.rotation.specs.Calls.{other_kind, probe_refusal}
use Rattle.rotation.specs.Machine.{Lent, force_text, Whole}
use Rattle.rotation.specs.State.{InForce}
use Rattle.rotation.specs.State.{Text, Factory}
use Rattle.rotation_probe.specs.Probe.{probed, path_on, probe_path, tree_on, probe_tree}
use Rattle.rotation_probe.specs.Rpc.{factory_rpc, rpc_on, probe_rpc}
use Rattle.promises.specs.Probes.{Probe, Taken, Answers, path_probe, tree_probe, rpc_probe, TableProbePromise, PolicyProbePromise}

-- ---- one proof for all three

-- how a probe judges what is in force
record Judges {A : Type 0} (p : Probe A) (store : Str) (judged : InForce → A) : Type 0 where
  text : (slot len : ℕ) → judged (Text slot len) ≡ p.verdict (text_in store slot len)
  refusal : ¬ (p.request ≡ clear) → judged Factory ≡ p.refused p.request
  factory : p.request ≡ clear → judged Factory ≡ p.factory

module _ {A : Type 0} (p : Probe A) (l : Lent) (judged : InForce → A) (j : Judges p l.store judged) where
  abbrev answer : A
  answer = probed p.refused judged p.kind l.state (length l.store)

  abbrev number : ℕ
  number = probe_refusal p.kind l.state (length l.store)

  -- the record's refusal, and what is judged without one
  refuses : (n : ℕ) → number ≡ n → ¬ (n ≡ clear) → answer ≡ p.refused n
  unfolding probed whether◌then◌else◌
  refuses n e h = rw (e, ne_eqb n clear h)

  eleven : short_store (length l.store) ≡ true → number ≡ 11
  unfolding probe_refusal record_refusal whether◌then◌else◌
  eleven e = rw e

  fifteen : short_store (length l.store) ≡ false → bad_record l.state ≡ true → number ≡ 15
  unfolding probe_refusal record_refusal whether◌then◌else◌
  fifteen e f = rw (e, f)

  sixteen : Whole l → ¬ (l.state.kind ≡ p.kind) → number ≡ 16
  unfolding probe_refusal record_refusal other_kind whether◌then◌else◌
  sixteen w other = rw (w.long, w.good, ne_eqb l.state.kind p.kind other)

  judges : Taken p.kind l → answer ≡ judged (in_force l.state)
  unfolding probed probe_refusal record_refusal other_kind whether◌then◌else◌
  judges t = rw (t.whole.long, t.whole.good, eq-eqb _ _ t.same_kind)

  by_text : (f : InForce) (text : Str) → force_text l.store f ≡ some text → judged f ≡ p.verdict text
  unfolding force_text
  by_text (Text slot len) text h = let i : text_in l.store slot len ≡ text = cc in j.text slot len ∙ ap p.verdict i
  by_text Factory text h = let z : ◌≡◌ {A = ℕ} 0 1 = cc in absurd (omega arith)

  by_factory : (f : InForce) → force_text l.store f ≡ none → judged f ≡ judged Factory
  unfolding force_text
  by_factory (Text slot len) h = let z : ◌≡◌ {A = ℕ} 0 1 = cc in absurd (omega arith)
  by_factory Factory h = refl

  candidate : given l.state.candidate_len ≡ true → in_force l.state ≡ Text (candidate_slot l.state) l.state.candidate_len
  unfolding in_force whether◌then◌else◌
  candidate e = rw e

  answers : Answers p l answer
  answers = record {
    short_store_lem = λ e. refuses 11 (eleven e) (λ z. omega arith);
    bad_record_lem = λ e f. refuses 15 (fifteen e f) (λ z. omega arith);
    other_kind_lem = λ w other. refuses 16 (sixteen w other) (λ z. omega arith);
    on_text = λ t text h. judges t ∙ by_text (in_force l.state) text h;
    on_candidate = λ t e. judges t ∙ ap judged (candidate e) ∙ j.text _ _;
    request_refused = λ t h bad. judges t ∙ by_factory (in_force l.state) h ∙ j.refusal bad;
    on_factory = λ t h fine. judges t ∙ by_factory (in_force l.state) h ∙ j.factory fine;
  }

-- ---- the three probes

module _ (user : Str) (mode : ℕ) (origin text : Str) (l : Lent) where
  path_judges : Judges (path_probe user mode origin text) l.store (path_on l.store user mode origin text)
  unfolding path_on path_answer decided_by whether◌then◌else◌
  path_judges = record { text = λ slot len. refl; refusal = λ bad. rw (ne_eqb _ _ bad); factory = λ fine. rw fine }

  tree_judges : Judges (tree_probe user mode origin text) l.store (tree_on l.store user mode origin text)
  unfolding tree_on tree_answer spread whether◌then◌else◌
  tree_judges = record { text = λ slot len. refl; refusal = λ bad. rw (ne_eqb _ _ bad); factory = λ fine. rw fine }

  pub table_probes : TableProbePromise user mode origin text l
  unfolding probe_path probe_tree
  table_probes = record {
    path_probe_lem = answers (path_probe user mode origin text) l _ path_judges;
    tree_probe_lem = answers (tree_probe user mode origin text) l _ tree_judges;
  }

module _ (identity path headers : Str) (l : Lent) where
  rpc_judges : Judges (rpc_probe identity path headers) l.store (rpc_on l.store identity path headers)
  unfolding rpc_on factory_rpc whether◌then◌else◌
  rpc_judges = record { text = λ slot len. refl; refusal = λ bad. rw (ne_eqb _ _ bad); factory = λ fine. rw fine }

  pub policy_probes : PolicyProbePromise identity path headers l
  unfolding probe_rpc
  policy_probes = record { rpc_probe_lem = answers (rpc_probe identity path headers) l _ rpc_judges }
