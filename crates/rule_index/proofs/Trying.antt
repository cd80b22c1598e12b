-- What is kept when rules are tried one after another.
use Prim.Native.Nat.{ℕ, suc, ◌-◌, ◌≤◌, ◌<◌}
use native.Mathlib.Omega.{arith}
use mathlib.Core.Path.{◌≡◌, refl, sym, ap, ◌∙◌, subst}
use mathlib.Core.Bool.{Bool, true, false}
use mathlib.Core.List.{List}
use mathlib.Core.Option.{Option, none, some}
use lib.Dec.{eqb}
use lib.ListN.{length, get_or}
use borrow.Author.Tests.{eq-eqb, ne_eqb}
use Rattle.text.specs.Test.{◌and◌, whether◌then◌else◌}
use Rattle.text.specs.String.{Str}
use Rattle.text.proofs.Tests.{clash, by}
use Rattle.path.specs.Path.{Path}
use Rattle.table.specs.Table.{Rule}
use Rattle.table_rows.specs.Rules.{rule_in}
use Rattle.verdict.specs.Cover.{covers}
use Rattle.verdict.specs.Order.{Numbered, better, prefer, candidate}
use Rattle.verdict.specs.Rank.{rank}
use Rattle.verdict.proofs.Order.{better_order}
use Rattle.verdict_judge.specs.Best.{wins, matching}
use Rattle.verdict_judge.proofs.Steps.{step_off, step_miss, step_keep, step_take}
use Rattle.verdict_concern.specs.Concern.{applies_by}
use Rattle.rule_index.specs.Found.{is_over, matches_at, Kept, Tried}

-- ---- one rule more

not_over_itself : (r : Rule) → better r r ≡ false
not_over_itself r = by (better r r) (λ e. better_order.oasym r r e) (λ e. e)

some_is : {n m : Numbered} → ◌≡◌ {A = Option Numbered} (some n) (some m) → n ≡ m
some_is e = cc

pub none_some {ℓ} : {X : Type ℓ} {m : Numbered} → ◌≡◌ {A = Option Numbered} none (some m) → X
none_some e = let z : ◌≡◌ {A = ℕ} 0 1 = cc in absurd (omega arith)

prefer_still : (x : Rule) (h c : Option Numbered) → is_over x (prefer better h c) ≡ true → is_over x h ≡ true
unfolding is_over prefer whether◌then◌else◌
prefer_still x none c e = refl
prefer_still x (some n) none e = e
prefer_still x (some n) (some m) e =
    by (better x n.rule) (λ t. t)
    (λ t. by (better m.rule n.rule)
    (λ w. clash (rw w at e) (better_order.ochain x n.rule m.rule t (better_order.oasym m.rule n.rule w)))
    (λ w. clash (rw w at e) t))

prefer_done : (test : Rule → Bool) (i : ℕ) (r : Rule) (h : Option Numbered) → test r ≡ true → is_over r (prefer better h (candidate test i r)) ≡ false
unfolding is_over prefer candidate whether◌then◌else◌
prefer_done test i r none e = rw e (not_over_itself r)
prefer_done test i r (some n) e = rw e (by (better r n.rule) (λ w. rw w (not_over_itself r)) (λ w. rw w w))

module _ (P : Numbered → Type 0) where
  prefer_stands : (h c : Option Numbered) → ((m : Numbered) → h ≡ some m → P m) → ((m : Numbered) → c ≡ some m → P m)
      → (m : Numbered) → prefer better h c ≡ some m → P m
  unfolding prefer whether◌then◌else◌
  prefer_stands none c a b m e = b m e
  prefer_stands (some n) none a b m e = a m e
  prefer_stands (some n) (some k) a b m e =
      by (better k.rule n.rule) (λ w. b m (rw w at e)) (λ w. a m (rw w at e))

  candidate_stands : (test : Rule → Bool) (i : ℕ) (r : Rule) → (test r ≡ true → P (record { number = i; rule = r })) → (m : Numbered) → candidate test i r ≡ some m → P m
  unfolding candidate whether◌then◌else◌
  candidate_stands test i r p m e =
      by (test r) (λ t. subst P (some_is (rw t at e)) (p t)) (λ t. none_some (rw t at e))

module _ (f starts holders : List ℕ) (n set : ℕ) (user : Str) (mode : ℕ) (origin : Str) (p : Path) where
  abbrev Test : ℕ → Rule → Bool
  Test i = matching (λ r. applies_by set (get_or holders i 0) user mode origin r) p

  tests : (i : ℕ) → matches_at f starts holders n set user mode origin p i ≡ Test i (rule_in f (get_or starts i 0))
  unfolding matches_at
  tests i = refl

  module _ (b : Option Numbered) (i : ℕ) (l : i < n) (K : Kept f starts holders n set user mode origin p b) where
    abbrev Stands : Numbered → Type 0
    Stands m = (m.number < n) × (m.rule ≡ rule_in f (get_or starts m.number 0)) × (matches_at f starts holders n set user mode origin p m.number ≡ true)

    tried : (c : Option Numbered) → c ≡ prefer better b (candidate (Test i) i (rule_in f (get_or starts i 0))) → Tried f starts holders n set user mode origin p i b c
    tried c e =
        record {
          after = record {
            kept = record {
              stands = λ m h. prefer_stands Stands b _ K.stands (candidate_stands Stands (Test i) i _ (λ t. (l, refl, tests i ∙ t))) m (sym e ∙ h);
            };
            still = λ k h. prefer_still _ b _ (ap (is_over (rule_in f (get_or starts k 0))) (sym e) ∙ h);
          };
          done = λ t. ap (is_over (rule_in f (get_or starts i 0))) e ∙ prefer_done (Test i) i _ b (sym (tests i) ∙ t);
        }

    abbrev App : Rule → Bool
    App r = applies_by set (get_or holders i 0) user mode origin r

    abbrev Also : Rule → Bool
    Also r = covers r.path p

    -- it does not win
    pub tried_behind : wins better (rule_in f (get_or starts i 0)) b ≡ false → Tried f starts holders n set user mode origin p i b b
    tried_behind e = tried b (step_keep better b i _ App Also e)

    -- it does not apply
    pub tried_off : App (rule_in f (get_or starts i 0)) ≡ false → Tried f starts holders n set user mode origin p i b b
    tried_off e = tried b (step_off better b i _ App Also e)

    -- it does not cover the path
    pub tried_miss : covers (rule_in f (get_or starts i 0)).path p ≡ false → Tried f starts holders n set user mode origin p i b b
    tried_miss e = tried b (step_miss better b i _ App Also e)

    -- it is the best so far
    pub tried_best : wins better (rule_in f (get_or starts i 0)) b ≡ true → App (rule_in f (get_or starts i 0)) ≡ true
        → covers (rule_in f (get_or starts i 0)).path p ≡ true
        → Tried f starts holders n set user mode origin p i b (some (record { number = i; rule = rule_in f (get_or starts i 0) }))
    tried_best w a c = tried _ (step_take better b i _ App Also a c w)
