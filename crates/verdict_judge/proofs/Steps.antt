-- One turn of a loop that keeps the best so far, over any order and any test of two parts.
use mathlib.Core.Path.{◌≡◌, refl, sym, ◌∙◌}
use mathlib.Core.Bool.{Bool, true, false}
use mathlib.Core.List.{List, [], ◌∷◌}
use mathlib.Core.Option.{Option, none, some}
use Prim.Native.Nat.{ℕ, suc, ◌+◌, ◌-◌, ◌≤◌, ◌<◌}
use native.Mathlib.Numerals.{add-one}
use native.Mathlib.Omega.{arith}
use borrow.Author.Tests.{ne_eqb}
use lib.ListN.{get_or}
use Rattle.table_rows.specs.Strings.{rows_of}
use Rattle.text.specs.Test.{◌and◌, ◌or◌, whether◌then◌else◌}
use Rattle.text.proofs.Tests.{clash, by, and_first, and_second}
use Rattle.table.specs.Table.{Rule}
use Rattle.verdict.specs.Order.{Numbered, prefer, candidate, choose}
use Rattle.verdict.proofs.Order.{Order}
use Rattle.verdict.proofs.Choose.{prefer_assoc}
use Rattle.table_rows.specs.Rules.{rule_in, rules_in}
use Rattle.verdict_judge.specs.Best.{wins}

module _ (over : Rule → Rule → Bool) where
  prefer_none : (x : Option Numbered) → prefer over x none ≡ x
  unfolding prefer
  prefer_none none = refl
  prefer_none (some n) = refl

  -- ---- one rule

  module _ (x : Option Numbered) (i : ℕ) (r : Rule) (app also : Rule → Bool) where
    abbrev After : Option Numbered
    After = prefer over x (candidate (λ r. app r and also r) i r)

    fails : (app r and also r) ≡ false → x ≡ After
    unfolding candidate whether◌then◌else◌
    fails e = rw e (sym (prefer_none x))

    pub step_off : app r ≡ false → x ≡ After
    step_off e = fails (and_first _ _ e)

    pub step_miss : also r ≡ false → x ≡ After
    step_miss e = fails (and_second _ _ e)

  -- whatever the test says, so the cheaper test may come first
  pub step_keep : (x : Option Numbered) (i : ℕ) (r : Rule) (app also : Rule → Bool) → wins over r x ≡ false
      → x ≡ prefer over x (candidate (λ r. app r and also r) i r)
  unfolding candidate prefer whether◌then◌else◌ wins
  step_keep none i r app also e = clash refl e
  step_keep (some m) i r app also e = by (app r and also r) (λ t. rw t (rw e)) (λ t. rw t)

  pub step_take : (x : Option Numbered) (i : ℕ) (r : Rule) (app also : Rule → Bool) → app r ≡ true → also r ≡ true → wins over r x ≡ true
      → some (record { number = i; rule = r }) ≡ prefer over x (candidate (λ r. app r and also r) i r)
  unfolding candidate prefer whether◌then◌else◌ ◌and◌ wins
  step_take none i r app also e a w = rw (e, a)
  step_take (some m) i r app also e a w = rw (e, a) (rw w)

  -- ---- the rules from number i on

  module _ (o : Order over) (test : Rule → Bool) (f starts : List ℕ) (n : ℕ) where
    pub best_none : choose over test 0 (rules_in f starts n 0) ≡ prefer over none (choose over test 0 (rules_in f starts (n - 0) 0))
    unfolding prefer
    best_none = let e : n - 0 ≡ n = omega arith in rw e

    rules_cons : (i : ℕ) → i < n → rules_in f starts (n - i) i ≡ rule_in f (get_or starts i 0) ∷ rules_in f starts (n - (i + 1)) (i + 1)
    unfolding rules_in rows_of
    rules_cons i h = let e : n - i ≡ suc (n - (i + 1)) = omega arith in rw (e, add-one)

    rules_nil : (i : ℕ) → n ≤ i → rules_in f starts (n - i) i ≡ []
    unfolding rules_in rows_of
    rules_nil i h = let e : n - i ≡ 0 = omega arith in rw e

    pub best_turn : (x b c : Option Numbered) (i : ℕ) → i < n
        → c ≡ prefer over b (candidate test i (rule_in f (get_or starts i 0)))
        → x ≡ prefer over b (choose over test i (rules_in f starts (n - i) i))
        → x ≡ prefer over (c) (choose over test (i + 1) (rules_in f starts (n - (i + 1)) (i + 1)))
    unfolding choose
    best_turn x b c i h e k =
        let u : suc i ≡ i + 1 = sym (add-one i) in
        let r : choose over test i (rules_in f starts (n - i) i) ≡ prefer over (candidate test i (rule_in f (get_or starts i 0))) (choose over test (i + 1) (rules_in f starts (n - (i + 1)) (i + 1))) =
        rw (rules_cons i h, u) in
        k ∙ rw (r, e) (sym (prefer_assoc o b (candidate test i (rule_in f (get_or starts i 0))) (choose over test (i + 1) (rules_in f starts (n - (i + 1)) (i + 1)))))

    pub best_end : (x b : Option Numbered) (i : ℕ) → n ≤ i → x ≡ prefer over b (choose over test i (rules_in f starts (n - i) i)) → b ≡ x
    unfolding choose
    best_end x b i h k =
        let r : choose over test i (rules_in f starts (n - i) i) ≡ none = rw (rules_nil i h) in
        sym (k ∙ rw r (prefer_none b))
