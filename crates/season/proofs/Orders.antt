-- The lines of a log, or of a table, in another order: what becomes of the figures.
use Prim.Native.Nat.{ℕ}
use native.Mathlib.Omega.{arith}
use borrow.Author.Tests.{eq-eqb, eqb-true}
use mathlib.Core.Path.{◌≡◌, refl, sym, ap, ◌∙◌}
use mathlib.Core.Bool.{Bool, true, false, not}
use mathlib.Core.List.{List, [], ◌∷◌, filter_map}
use mathlib.Core.List.Permᴰ
use mathlib.Core.List.{Permᴰ}
use mathlib.Core.Option.{Option, none, some, Option-elim}
use lib.Dec.{eqb}
use lib.ListN.{get_elem?}
use Rattle.text.specs.Test.{◌and◌, whether◌then◌else◌, absent}
use Rattle.text.specs.String.{Str, same}
use Rattle.text.proofs.Tests.{by, bool_ext, same→≡, ≡→same}
use Rattle.text.proofs.Order.{before_self}
use Rattle.table_line.specs.Lines.{lines}
use Rattle.table.specs.Table.{Rule, Table}
use Rattle.table.specs.Checked.{Accepted}
use Rattle.verdict.specs.Order.{earlier, Numbered}
use Rattle.verdict.specs.Verdict.{Request, decider, action, permits}
use Rattle.verdict.specs.Laws.{Best, Decided, Reordered, id_of, SameAnswers}
use Rattle.verdict.specs.Orderly.{Orderly}
use Rattle.verdict.proofs.Order.{earlier_order}
use Rattle.verdict.proofs.Reorder.{perm_mem}
use Rattle.verdict.proofs.Theorems.{verdict, best_unique, reordered}
use Rattle.verdict_order.proofs.Permutations.{perm_length, perm_filter_map}
use Rattle.verdict_request.specs.Calls.{decided_by}
use Rattle.verdict_request.specs.PathAnswer.{PathAnswer}
use Rattle.request_log.specs.Request.{request_of}
use Rattle.request_log.specs.Log.{check_log, before, requests_of, log_of}
use Rattle.season.specs.Report.{answer_to, decides, permitted, denied_by_rule, denied_by_default, count, rule_count, cell, row, grid, figures}
use Rattle.season.proofs.Totals.{one_if, count_cons, count_same}
use Rattle.season.proofs.Figures.{row_same, grid_same, figures_same}
use Rattle.season.proofs.Asked.{log_opens, log_closes}

-- ---- the lines of a log in another order

count_perm : {A : Type 0} (f : A → Bool) {xs ys : List A} → Permᴰ xs ys → count f xs ≡ count f ys
count_perm f Permᴰ.nil = refl
count_perm f (Permᴰ.cons {a} {b} {l₁ = xs} {l₂ = ys} e d) =
    omega (arith, count_cons f a xs, count_cons f b ys, ap (λ x. one_if (f x)) e, count_perm f d)
count_perm f (Permᴰ.swap {a} {b} {a'} {b'} {l} e g) =
    omega (
      arith,
      count_cons f a (b ∷ l),
      count_cons f b l,
      count_cons f a' (b' ∷ l),
      count_cons f b' l,
      ap (λ x. one_if (f x)) e,
      ap (λ x. one_if (f x)) g,
    )
count_perm f (Permᴰ.trans d e) = count_perm f d ∙ count_perm f e

-- the requests are what `request_of` finds
found : (ls : List Str) → requests_of ls ≡ filter_map request_of ls
unfolding requests_of filter_map
found [] = refl
found (l ∷ ls) = go (request_of l) ∙ ap (λ (qs : List Request). Option-elim (request_of l) qs (λ q. q ∷ qs)) (found ls)
  where
    go : (o : Option Request) → before o (requests_of ls) ≡ Option-elim o (requests_of ls) (λ q. q ∷ requests_of ls)
    go none = unfold before Option-elim in refl
    go (some q) = unfold before Option-elim in refl

module _ (a b : Str) (p : Permᴰ (lines a) (lines b)) where
  requests_perm : Permᴰ (log_of a) (log_of b)
  unfolding log_of
  requests_perm = rw (found (lines a), found (lines b)) (perm_filter_map request_of p)

  pub log_again : check_log a ≡ Accepted → check_log b ≡ Accepted
  log_again e =
      let o = log_opens a e in
      log_closes b (record { few = omega (arith, perm_length p, o.few); good = λ l m. o.good l (perm_mem (Permᴰ.symm p) m) })

  pub same_figures : (t : Table) → figures t (log_of a) ≡ figures t (log_of b)
  same_figures t = figures_same t t (log_of a) (log_of b) rows rules
    where
      cells : (mode : ℕ) (outcome : PathAnswer → Bool) → cell t (log_of a) mode outcome ≡ cell t (log_of b) mode outcome
      cells mode outcome = unfold cell in count_perm _ requests_perm

      rows : (mode : ℕ) → row t (log_of a) mode ≡ row t (log_of b) mode
      rows mode = row_same t t (log_of a) (log_of b) mode (cells mode permitted) (cells mode denied_by_rule) (cells mode denied_by_default)

      rules : (i : ℕ) → rule_count t (log_of a) i ≡ rule_count t (log_of b) i
      rules i = unfold rule_count in count_perm _ requests_perm

-- ---- the lines of a table in another order

-- the rule of that id decided
unfoldable names : Option Str → Str → Bool
names none id = false
names (some decided) id = same decided id

module _ (t : Table) (ok : Orderly t) where
  -- a rule of this id, with its number, is the best of those of this id
  best_of_id : (id : Str) (n : Numbered) → get_elem? t.rules n.number ≡ some n.rule → n.rule.id ≡ id → Best earlier (λ r. same r.id id) t n
  unfolding earlier
  best_of_id id n place e =
      record { numbered = place; passes = ≡→same e; unbeaten = λ s m k. rw (same→≡ s.id id k ∙ sym e) (before_self n.rule.id) }

  one_number : (m n : Numbered) → get_elem? t.rules m.number ≡ some m.rule → get_elem? t.rules n.number ≡ some n.rule
      → m.rule.id ≡ n.rule.id → m.number ≡ n.number
  one_number m n place there e =
      ap (λ (k : Numbered). k.number)
      (best_unique earlier_order (λ r. same r.id n.rule.id) t ok m n (best_of_id n.rule.id m place e) (best_of_id n.rule.id n there refl))

  decides_number : (i : ℕ) (n : Numbered) → decides i (decided_by (some n)) ≡ eqb n.number i
  unfolding decided_by decides whether◌then◌else◌
  decides_number i n = by n.rule.permit (λ e. rw e) (λ e. rw e)

  -- the rule of number i decides where its id does
  decides_id : (q : Request) (i : ℕ) (r : Rule) → get_elem? t.rules i ≡ some r → decides i (answer_to t q) ≡ names (id_of (decider t q)) r.id
  unfolding answer_to
  decides_id q i r there = go (decider t q) (verdict t q)
    where
      go : (o : Option Numbered) → Decided t q o → decides i (decided_by o) ≡ names (id_of o) r.id
      go none d = unfold decided_by decides id_of names in refl
      go (some n) d =
          decides_number i n
          ∙ unfold id_of names in
          bool_ext (eqb n.number i) (same n.rule.id r.id) by_number
          (λ e. eq-eqb _ _ (one_number n (record { number = i; rule = r }) d.numbered there (same→≡ _ _ e)))
        where
          by_number : eqb n.number i ≡ true → same n.rule.id r.id ≡ true
          by_number e =
              let k : n.number ≡ i = eqb-true _ _ e in
              let p : n.rule ≡ r = cc d.numbered in
              ≡→same (ap (λ (s : Rule). s.id) p)

-- what the outcomes tell is the action, and whether there is an id
permitted_is : (o : Option Numbered) → permitted (decided_by o) ≡ action o
unfolding decided_by permitted action whether◌then◌else◌
permitted_is none = refl
permitted_is (some n) = by n.rule.permit (λ e. rw e) (λ e. rw e)

rule_is : (o : Option Numbered) → denied_by_rule (decided_by o) ≡ (not (absent (id_of o)) and not (action o))
unfolding decided_by denied_by_rule absent id_of action ◌and◌ whether◌then◌else◌
rule_is none = refl
rule_is (some n) = by n.rule.permit (λ e. rw e) (λ e. rw e)

default_is : (o : Option Numbered) → denied_by_default (decided_by o) ≡ absent (id_of o)
unfolding decided_by denied_by_default absent id_of whether◌then◌else◌
default_is none = refl
default_is (some n) = by n.rule.permit (λ e. rw e) (λ e. rw e)

module _ (t u : Table) (ok : Orderly t) (p : Reordered t u) (qs : List Request) where
  alike : (q : Request) → SameAnswers t u q
  alike = (reordered t u ok p).1

  -- rules of one id decided equally often, whatever their numbers
  pub same_count : (i j : ℕ) (r s : Rule) → get_elem? t.rules i ≡ some r → get_elem? u.rules j ≡ some s → r.id ≡ s.id
      → rule_count t qs i ≡ rule_count u qs j
  unfolding rule_count
  same_count i j r s here there e =
      count_same _ _ qs (λ q m. decides_id t ok q i r here ∙ rw ((alike q).deciding, e) (sym (decides_id u (reordered t u ok p).0 q j s there)))

  same_outcome : (mode : ℕ) (outcome : PathAnswer → Bool) (told : Bool → Option Str → Bool)
      → ((o : Option Numbered) → outcome (decided_by o) ≡ told (action o) (id_of o)) → cell t qs mode outcome ≡ cell u qs mode outcome
  unfolding cell answer_to permits
  same_outcome mode outcome told is =
      count_same _ _ qs
      (λ q m. ap (λ (b : Bool). eqb q.mode mode and b) (is (decider t q) ∙ rw ((alike q).action, (alike q).deciding) (sym (is (decider u q)))))

  pub same_grid : grid t qs ≡ grid u qs
  same_grid =
      grid_same t u qs qs (λ mode. row_same t u qs qs mode
      (same_outcome mode permitted (λ a i. a) permitted_is)
      (same_outcome mode denied_by_rule (λ a i. not (absent i) and not a) rule_is)
      (same_outcome mode denied_by_default (λ a i. absent i) default_is))
