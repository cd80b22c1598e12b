-- Counting requests by their answers, and what the counts of a report sum to.
use Prim.Native.Nat.{ℕ, zero, suc, ◌+◌, ◌≤◌, ◌<◌}
use native.Mathlib.Omega.{arith}
use borrow.Author.Tests.{eq-eqb, ne_eqb, eqb-true, eqb-false}
use mathlib.Core.Path.{◌≡◌, refl, sym, ap, ◌∙◌}
use mathlib.Core.Logic.{◌⊎◌, inl, inr}
use mathlib.Core.Bool.{Bool, false}
use mathlib.Core.List.Memᴰ
use mathlib.Core.List.{List, [], ◌∷◌, ◌++◌}
use mathlib.Core.Option.{Option, none, some}
use lib.Dec.{eqb}
use lib.ListN.{length, get_or, get_elem?}
use Rattle.limits.specs.Limits.{max_rules}
use Rattle.text.specs.Test.{◌and◌, whether◌then◌else◌, ◌∈◌, only}
use Rattle.text.specs.String.{joined}
use Rattle.text.proofs.Tests.{by, and_second}
use Rattle.table.specs.Table.{Table}
use Rattle.verdict.specs.Order.{Numbered}
use Rattle.verdict.specs.Verdict.{Request, decider}
use Rattle.verdict.specs.Laws.{Decided}
use Rattle.verdict.proofs.Theorems.{verdict}
use Rattle.verdict_request.specs.Calls.{decided_by}
use Rattle.verdict_request.specs.PathAnswer.{PathAnswer}
use Rattle.verdict_request.specs.PathAnswer.{Permit, Deny, Default}
use Rattle.season.specs.Report.{answer_to, decides, permitted, denied_by_rule, denied_by_default, count, for_each, rule_count, rule_counts, cell, row, grid}
use Rattle.season.specs.Total.{total}

-- ---- counting

-- 1 where it holds
abbrev pub one_if : Bool → ℕ
one_if b = whether b then 1 else 0

module _ {A : Type 0} (f : A → Bool) where
  pub count_nil : count f [] ≡ 0
  unfolding count only
  count_nil = refl

  pub count_cons : (x : A) (xs : List A) → count f (x ∷ xs) ≡ one_if (f x) + count f xs
  unfolding count only whether◌then◌else◌
  count_cons x xs = by (f x) (λ e. rw e (omega arith)) (λ e. rw e (omega arith))

  pub count_append : (xs ys : List A) → count f (xs ++ ys) ≡ count f xs + count f ys
  count_append [] ys = omega (arith, count_nil)
  count_append (x ∷ xs) ys = omega (arith, count_cons x (xs ++ ys), count_cons x xs, count_append xs ys)

  pub count_most : (xs : List A) → count f xs ≤ length xs
  unfolding whether◌then◌else◌
  count_most [] = omega (arith, count_nil)
  count_most (x ∷ xs) = by (f x) (λ e. omega (arith, rw e at (count_cons x xs), count_most xs)) (λ e. omega (arith, rw e at (count_cons x xs), count_most xs))

-- tests that agree on the members count the same
pub count_same : {A : Type 0} (f g : A → Bool) (xs : List A) → ((x : A) → x ∈ xs → f x ≡ g x) → count f xs ≡ count g xs
count_same f g [] h = count_nil f ∙ sym (count_nil g)
count_same f g (x ∷ xs) h =
    omega (arith, count_cons f x xs, count_cons g x xs, ap one_if (h x (Memᴰ.head refl)), count_same f g xs (λ y m. h y (Memᴰ.tail m)))

count_none : {A : Type 0} (f : A → Bool) (xs : List A) → ((x : A) → f x ≡ false) → count f xs ≡ 0
unfolding whether◌then◌else◌
count_none f [] h = count_nil f
count_none f (x ∷ xs) h = omega (arith, rw (h x) at (count_cons f x xs), count_none f xs h)

-- ---- a figure for each number

pub each_length : (f : ℕ → ℕ) (n i : ℕ) → length (for_each f n i) ≡ n
unfolding for_each
each_length f zero i = refl
each_length f (suc n) i = ap suc (each_length f n (suc i))

pub each_at : (f : ℕ → ℕ) (n i k : ℕ) → k < n → get_or (for_each f n i) k 0 ≡ f (i + k)
unfolding for_each
each_at f zero i k h = absurd (omega arith)
each_at f (suc n) i zero h = ap f (omega arith)
each_at f (suc n) i (suc k) h = each_at f n (suc i) k (omega arith) ∙ ap f (omega arith)

each_total : (f g h : ℕ → ℕ) → ((i : ℕ) → f i ≡ g i + h i) → (n i : ℕ) → total (for_each f n i) ≡ total (for_each g n i) + total (for_each h n i)
unfolding for_each
each_total f g h e zero i = omega arith
each_total f g h e (suc n) i = omega (arith, e i, each_total f g h e n (suc i))

each_none : (f : ℕ → ℕ) → ((i : ℕ) → f i ≡ 0) → (n i : ℕ) → total (for_each f n i) ≡ 0
unfolding for_each
each_none f e zero i = refl
each_none f e (suc n) i = omega (arith, e i, each_none f e n (suc i))

-- one number of n from i on is r, or none
no_hit : (r n i : ℕ) → r < i → total (for_each (λ k. one_if (eqb r k)) n i) ≡ 0
unfolding for_each whether◌then◌else◌
no_hit r zero i h = refl
no_hit r (suc n) i h = rw (ne_eqb r i (λ z. omega arith)) (omega (arith, no_hit r n (suc i) (omega arith)))

one_hit : (r n i : ℕ) → i ≤ r → r < i + n → total (for_each (λ k. one_if (eqb r k)) n i) ≡ 1
unfolding for_each whether◌then◌else◌
one_hit r zero i l h = absurd (omega arith)
one_hit r (suc n) i l h =
    by (eqb r i)
    (λ e. let z : r ≡ i = eqb-true r i e in rw e (omega (arith, no_hit r n (suc i) (omega arith))))
    (λ e. let z : r ≡ i → ⊥ = eqb-false r i e in let k : suc i ≤ r = omega arith in rw e (omega (arith, one_hit r n (suc i) k (omega arith))))

-- ---- what they sum to

-- the mode of an accepted request
abbrev pub ReadsOrWrites : Request → Type 0
ReadsOrWrites q = (q.mode ≡ 1) ⊎ (q.mode ≡ 2)

-- an answer by a rule whose number is below n, or by default
pub data Answered (n : ℕ) : PathAnswer → Type 0 where
  permit : (r : ℕ) → r < n → Answered n (Permit (record { 0 = r }))
  deny : (r : ℕ) → r < n → Answered n (Deny (record { 0 = r }))
  default : Answered n Default

pub below : {A : Type 0} (xs : List A) (i : ℕ) (x : A) → get_elem? xs i ≡ some x → i < length xs
below [] i x e = let z : ◌≡◌ {A = ℕ} 0 1 = cc in absurd (omega arith)
below (y ∷ xs) zero x e = omega arith
below (y ∷ xs) (suc i) x e = let h = below xs i x e in omega arith

pub answered : (t : Table) (n : ℕ) → length t.rules ≤ n → (q : Request) → Answered n (answer_to t q)
unfolding answer_to
answered t n h q = go (decider t q) (verdict t q)
  where
    go : (o : Option Numbered) → Decided t q o → Answered n (decided_by o)
    go none d = unfold decided_by in default
    go (some m) d =
        let k : m.number < n = omega (arith, below t.rules m.number m.rule d.numbered) in
        unfold decided_by whether◌then◌else◌ in by m.rule.permit (λ e. rw e (permit m.number k)) (λ e. rw e (deny m.number k))

-- what a request of mode m and answer a adds to a cell
abbrev in_cell : ℕ → PathAnswer → ℕ → (PathAnswer → Bool) → ℕ
in_cell m a mode outcome = one_if (eqb m mode and outcome a)

abbrev in_row : ℕ → PathAnswer → ℕ → ℕ
in_row m a mode = in_cell m a mode permitted + (in_cell m a mode denied_by_rule + in_cell m a mode denied_by_default)

-- and to the counts of n rules
abbrev in_rules : PathAnswer → ℕ → ℕ
in_rules a n = total (for_each (λ (i : ℕ). one_if (decides i a)) n 0)

own_row : {n : ℕ} {a : PathAnswer} → Answered n a → (m : ℕ) → in_row m a m ≡ 1
unfolding permitted denied_by_rule denied_by_default ◌and◌ whether◌then◌else◌
own_row (permit r h) m = rw (eq-eqb m m refl)
own_row (deny r h) m = rw (eq-eqb m m refl)
own_row default m = rw (eq-eqb m m refl)

other_row : (a : PathAnswer) (m k : ℕ) → (m ≡ k → ⊥) → in_row m a k ≡ 0
unfolding ◌and◌ whether◌then◌else◌
other_row a m k h = rw (ne_eqb m k h)

-- each request is in one cell of its mode's row
one_cell : {n : ℕ} {a : PathAnswer} → Answered n a → (q : Request) → ReadsOrWrites q → in_row q.mode a 1 + in_row q.mode a 2 ≡ 1
one_cell {a = a} k q (inl e) = rw e (omega (arith, own_row k 1, other_row a 1 2 (λ z. omega arith)))
one_cell {a = a} k q (inr e) = rw e (omega (arith, own_row k 2, other_row a 2 1 (λ z. omega arith)))

-- and it is decided by one rule, or in one of the default's cells
abbrev by_default : ℕ → PathAnswer → ℕ
by_default m a = in_cell m a 1 denied_by_default + in_cell m a 2 denied_by_default

not_by_default : (a : PathAnswer) (m : ℕ) → denied_by_default a ≡ false → by_default m a ≡ 0
unfolding whether◌then◌else◌
not_by_default a m e = rw (and_second (eqb m 1) _ e, and_second (eqb m 2) _ e)

by_default_lem : (q : Request) → ReadsOrWrites q → by_default q.mode Default ≡ 1
unfolding denied_by_default ◌and◌ whether◌then◌else◌
by_default_lem q (inl e) = rw e
by_default_lem q (inr e) = rw e

one_rule : {n : ℕ} {a : PathAnswer} → Answered n a → (q : Request) → ReadsOrWrites q → in_rules a n + by_default q.mode a ≡ 1
unfolding decides denied_by_default whether◌then◌else◌
one_rule {n} (permit r h) q m = omega (arith, one_hit r n 0 (omega arith) (omega arith), not_by_default (Permit (record { 0 = r })) q.mode refl)
one_rule {n} (deny r h) q m = omega (arith, one_hit r n 0 (omega arith) (omega arith), not_by_default (Deny (record { 0 = r })) q.mode refl)
one_rule {n} default q m = omega (arith, each_none (λ (i : ℕ). one_if (decides i Default)) (λ i. refl) n 0, by_default_lem q m)

undecided : {n : ℕ} {a : PathAnswer} → Answered n a → (i : ℕ) → n ≤ i → decides i a ≡ false
unfolding decides
undecided (permit r h) i l = ne_eqb r i (λ z. omega arith)
undecided (deny r h) i l = ne_eqb r i (λ z. omega arith)
undecided default i l = refl

module _ (t : Table) where
  cell_cons : (q : Request) (qs : List Request) (mode : ℕ) (outcome : PathAnswer → Bool)
      → cell t (q ∷ qs) mode outcome ≡ in_cell q.mode (answer_to t q) mode outcome + cell t qs mode outcome
  unfolding cell
  cell_cons q qs mode outcome = count_cons _ q qs

  cell_nil : (mode : ℕ) (outcome : PathAnswer → Bool) → cell t [] mode outcome ≡ 0
  unfolding cell
  cell_nil mode outcome = count_nil _

  row_nil : (mode : ℕ) → total (row t [] mode) ≡ 0
  unfolding row
  row_nil mode = omega (arith, cell_nil mode permitted, cell_nil mode denied_by_rule, cell_nil mode denied_by_default)

  rules_nil : total (rule_counts t []) ≡ 0
  unfolding rule_counts rule_count
  rules_nil = each_none _ (λ i. count_nil (λ (q : Request). decides i (answer_to t q))) max_rules 0

  row_cons : (q : Request) (qs : List Request) (mode : ℕ) → total (row t (q ∷ qs) mode) ≡ in_row q.mode (answer_to t q) mode + total (row t qs mode)
  unfolding row
  row_cons q qs mode = omega (arith, cell_cons q qs mode permitted, cell_cons q qs mode denied_by_rule, cell_cons q qs mode denied_by_default)

  rules_cons : (q : Request) (qs : List Request) → total (rule_counts t (q ∷ qs)) ≡ in_rules (answer_to t q) max_rules + total (rule_counts t qs)
  unfolding rule_counts rule_count
  rules_cons q qs = each_total _ _ _ (λ i. count_cons (λ (p : Request). decides i (answer_to t p)) q qs) max_rules 0

  -- a number that no rule has decides nothing
  pub no_such_rule : (qs : List Request) (i : ℕ) → length t.rules ≤ i → rule_count t qs i ≡ 0
  unfolding rule_count
  no_such_rule qs i h = count_none _ qs (λ q. undecided (answered t (length t.rules) (omega arith) q) i h)

  -- no rule has a number past the report's
  module _ (told : (q : Request) → Answered max_rules (answer_to t q)) where
    rows_total : (qs : List Request) → ((q : Request) → q ∈ qs → ReadsOrWrites q) → total (row t qs 1) + total (row t qs 2) ≡ length qs
    rows_total [] h = omega (arith, row_nil 1, row_nil 2)
    rows_total (q ∷ qs) h =
        omega (
          arith,
          row_cons q qs 1,
          row_cons q qs 2,
          one_cell (told q) q (h q (Memᴰ.head refl)),
          rows_total qs (λ p m. h p (Memᴰ.tail m)),
        )

    pub grid_total : (qs : List Request) → ((q : Request) → q ∈ qs → ReadsOrWrites q) → total (joined (λ (r : List ℕ). r) (grid t qs)) ≡ length qs
    unfolding grid row joined
    grid_total qs h = omega (arith, rows_total qs h)

    pub rules_total : (qs : List Request) → ((q : Request) → q ∈ qs → ReadsOrWrites q)
        → total (rule_counts t qs) + (cell t qs 1 denied_by_default + cell t qs 2 denied_by_default) ≡ length qs
    rules_total [] h = omega (arith, rules_nil, cell_nil 1 denied_by_default, cell_nil 2 denied_by_default)
    rules_total (q ∷ qs) h =
        omega (
          arith,
          rules_cons q qs,
          cell_cons q qs 1 denied_by_default,
          cell_cons q qs 2 denied_by_default,
          one_rule (told q) q (h q (Memᴰ.head refl)),
          rules_total qs (λ p m. h p (Memᴰ.tail m)),
        )
