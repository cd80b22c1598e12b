-- Counts: one request more raises one place and one cell.
use Prim.Native.Nat.{ℕ, zero, suc, ◌+◌, ◌-◌, ◌≤◌, ◌<◌}
use native.Mathlib.Nat.{zero-add, add-zero, add-suc, suc-add}
use native.Mathlib.Omega.{arith}
use borrow.Author.Tests.{eqb-true, eqb-false}
use mathlib.Core.Path.{◌≡◌, refl, sym, ap, ◌∙◌}
use mathlib.Core.Bool.{Bool, true, false}
use mathlib.Core.Logic.{◌⊎◌, inl, inr}
use mathlib.Core.List.{List, [], ◌∷◌, ◌++◌}
use lib.Dec.{eqb}
use lib.ListN.{length, get_or, set, length-set, replicate}
use lib.Seq.{get_or-set_same, get_or-set_other, ext_get_or}
use Rattle.limits.specs.Limits.{max_rules}
use Rattle.text.specs.Test.{◌and◌, whether◌then◌else◌, only}
use Rattle.text.proofs.Tests.{by}
use Rattle.table.specs.Table.{Table}
use Rattle.verdict.specs.Verdict.{Request}
use Rattle.verdict_request.specs.PathAnswer.{PathAnswer}
use Rattle.verdict_request.specs.PathAnswer.{Permit, Deny, Default, Refused}
use Rattle.season.specs.Report.{answer_to, decides, permitted, denied_by_rule, denied_by_default, count, for_each, rule_count, rule_counts, cell, row, grid}
use Rattle.season_count.specs.Counts.{raised, cell_of, cell_raised, raised_by, column_of, cell_raised_by, Placed, UpTo}

-- ---- how many pass

-- one more where the test holds
abbrev pub bump : Bool → ℕ → ℕ
bump true n = n + 1
bump false n = n

module _ {A : Type 0} (f : A → Bool) where
  pub count_append : (xs ys : List A) → count f (xs ++ ys) ≡ count f xs + count f ys
  unfolding count only whether◌then◌else◌
  count_append [] ys = sym (zero-add (count f ys))
  count_append (x ∷ xs) ys =
      by (f x) (λ t. rw t (ap suc (count_append xs ys) ∙ sym (suc-add (count f xs) (count f ys)))) (λ t. rw t (count_append xs ys))

  one : (x : A) → f x ≡ true → count f (x ∷ []) ≡ 1
  unfolding count only whether◌then◌else◌
  one x t = rw t

  nought : (x : A) → f x ≡ false → count f (x ∷ []) ≡ 0
  unfolding count only whether◌then◌else◌
  nought x t = rw t

  pub count_more : (xs : List A) (x : A) → count f (xs ++ (x ∷ [])) ≡ bump (f x) (count f xs)
  count_more xs x = count_append xs (x ∷ []) ∙ by (f x) (λ t. rw (t, one x t)) (λ t. rw (t, nought x t) (add-zero (count f xs)))

-- ---- a place for each number

module _ (f : ℕ → ℕ) where
  pub each_long : (n i : ℕ) → length (for_each f n i) ≡ n
  unfolding for_each
  each_long zero i = refl
  each_long (suc n) i = ap suc (each_long n (suc i))

  pub each_at : (n i j : ℕ) → j < n → get_or (for_each f n i) j 0 ≡ f (i + j)
  unfolding for_each
  each_at zero i j h = absurd (omega arith)
  each_at (suc n) i zero h = rw (add-zero i)
  each_at (suc n) i (suc j) h = each_at n (suc i) j (omega arith) ∙ ap f (suc-add i j ∙ sym (add-suc i j))

-- g counts one more than f at k, and the same elsewhere
module _ (f g : ℕ → ℕ) (n : ℕ) where
  pub each_raised : (k : ℕ) → k < n → ((j : ℕ) → g j ≡ bump (eqb k j) (f j)) → raised (for_each f n 0) k ≡ for_each g n 0
  each_raised k h e =
      ext_get_or 0 _ _ (simp length-set (each_long f n 0 ∙ sym (each_long g n 0)))
      (λ j l. let m : j < n = omega (arith, l, length-set (for_each f n 0) k (get_or (for_each f n 0) k 0 + 1), each_long f n 0) in
      let a : get_or (for_each f n 0) j 0 ≡ f j = each_at f n 0 j m ∙ ap f (zero-add j) in
      let b : get_or (for_each g n 0) j 0 ≡ g j = each_at g n 0 j m ∙ ap g (zero-add j) in
      by (eqb k j)
      (λ t. let i : k ≡ j = eqb-true k j t in
      rw (b, e j, t, ← i, get_or-set_same (for_each f n 0) k (get_or (for_each f n 0) k 0 + 1) 0 (omega (arith, each_long f n 0)))
      (ap (λ (x : ℕ). x + 1) (each_at f n 0 k h ∙ ap f (zero-add k))))
      (λ t. get_or-set_other (for_each f n 0) k j _ 0 (λ i. eqb-false k j t (sym i)) ∙ a ∙ sym (b ∙ e j ∙ rw t)))

  pub each_same : ((j : ℕ) → g j ≡ f j) → for_each f n 0 ≡ for_each g n 0
  each_same e =
      ext_get_or 0 _ _ (each_long f n 0 ∙ sym (each_long g n 0))
      (λ j l. let m : j < n = omega (arith, l, each_long f n 0) in each_at f n 0 j m ∙ sym (e (0 + j)) ∙ sym (each_at g n 0 j m))

-- ---- one request more

module _ (t : Table) (qs : List Request) (q : Request) (a : PathAnswer) (is : a ≡ answer_to t q) where
  abbrev more : List Request
  more = qs ++ (q ∷ [])

  rule_more : (i : ℕ) → rule_count t more i ≡ bump (decides i a) (rule_count t qs i)
  unfolding rule_count
  rule_more i = count_more _ qs q ∙ rw is

  cell_more : (mode : ℕ) (o : PathAnswer → Bool) → cell t more mode o ≡ bump (eqb q.mode mode and o a) (cell t qs mode o)
  unfolding cell
  cell_more mode o = count_more _ qs q ∙ rw is

  by_answer : (b : PathAnswer) → a ≡ b → Placed b → raised_by (rule_counts t qs) b ≡ rule_counts t more
  unfolding raised_by rule_counts Placed decides
  by_answer (Permit r) e p = each_raised (rule_count t qs) (rule_count t more) max_rules r.0 p (λ j. rule_more j ∙ rw e)
  by_answer (Deny r) e p = each_raised (rule_count t qs) (rule_count t more) max_rules r.0 p (λ j. rule_more j ∙ rw e)
  by_answer Default e p = each_same (rule_count t qs) (rule_count t more) max_rules (λ j. rule_more j ∙ rw e)
  by_answer (Refused n l) e p = absurd p

  pub rules_raised : Placed a → raised_by (rule_counts t qs) a ≡ rule_counts t more
  rules_raised p = by_answer a refl p

  row_more : (mode : ℕ) → row t more mode ≡ bump (eqb q.mode mode and permitted a) (cell t qs mode permitted)
      ∷ bump (eqb q.mode mode and denied_by_rule a) (cell t qs mode denied_by_rule)
      ∷ bump (eqb q.mode mode and denied_by_default a) (cell t qs mode denied_by_default) ∷ []
  unfolding row
  row_more mode = rw (cell_more mode permitted, cell_more mode denied_by_rule, cell_more mode denied_by_default)

  in_row : (m : ℕ) → q.mode ≡ m → 1 ≤ m → m ≤ 2 → (b : PathAnswer) → a ≡ b → Placed b → cell_raised_by (grid t qs) m b ≡ grid t more
  unfolding grid row column_of permitted denied_by_rule denied_by_default ◌and◌ Placed
  in_row zero i l h b e p = absurd (omega arith)
  in_row (suc zero) i l h (Permit r) e p = rw (row_more 1, row_more 2, e, i)
  in_row (suc zero) i l h (Deny r) e p = rw (row_more 1, row_more 2, e, i)
  in_row (suc zero) i l h Default e p = rw (row_more 1, row_more 2, e, i)
  in_row (suc zero) i l h (Refused n k) e p = absurd p
  in_row (suc (suc zero)) i l h (Permit r) e p = rw (row_more 1, row_more 2, e, i)
  in_row (suc (suc zero)) i l h (Deny r) e p = rw (row_more 1, row_more 2, e, i)
  in_row (suc (suc zero)) i l h Default e p = rw (row_more 1, row_more 2, e, i)
  in_row (suc (suc zero)) i l h (Refused n k) e p = absurd p
  in_row (suc (suc (suc m))) i l h b e p = absurd (omega arith)

  pub cell_raised_lem : (m : ℕ) → q.mode ≡ m → 1 ≤ m → m ≤ 2 → Placed a → cell_raised_by (grid t qs) m a ≡ grid t more
  cell_raised_lem m i l h p = in_row m i l h a refl p

-- ---- no count is more than the number of requests

set_either : {A : Type 0} (a : List A) (k i : ℕ) (v d : A) → (get_or (set a k v) i d ≡ v) ⊎ (get_or (set a k v) i d ≡ get_or a i d)
set_either [] k i v d = inr refl
set_either (x ∷ a) zero zero v d = inl refl
set_either (x ∷ a) zero (suc i) v d = inr refl
set_either (x ∷ a) (suc k) zero v d = inr refl
set_either (x ∷ a) (suc k) (suc i) v d = set_either a k i v d

module _ (n : ℕ) (counts : List ℕ) (cells : List (List ℕ)) (u : UpTo n counts cells) where
  place_low : (a : List ℕ) → ((i : ℕ) → get_or a i 0 ≤ n) → (k i : ℕ) → get_or (raised a k) i 0 ≤ n + 1
  place_low a h k i = go (set_either a k i (get_or a k 0 + 1) 0)
    where
      go : (get_or (raised a k) i 0 ≡ get_or a k 0 + 1) ⊎ (get_or (raised a k) i 0 ≡ get_or a i 0) → get_or (raised a k) i 0 ≤ n + 1
      go (inl e) = omega (arith, h k)
      go (inr e) = omega (arith, h i)

  rule_low : (a : PathAnswer) (i : ℕ) → get_or (raised_by counts a) i 0 ≤ n + 1
  unfolding raised_by
  rule_low (Permit r) i = place_low counts u.rules r.0 i
  rule_low (Deny r) i = place_low counts u.rules r.0 i
  rule_low Default i = omega (arith, u.rules i)
  rule_low (Refused m l) i = omega (arith, u.rules i)

  cell_low : (r c i j : ℕ) → cell_of (cell_raised cells r c) i j ≤ n + 1
  cell_low r c i j = go (set_either cells r i (raised (get_or cells r []) c) [])
    where
      go : (get_or (cell_raised cells r c) i [] ≡ raised (get_or cells r []) c) ⊎ (get_or (cell_raised cells r c) i [] ≡ get_or cells i []) → cell_of (cell_raised cells r c) i j ≤ n + 1
      go (inl e) = rw e (place_low (get_or cells r []) (λ k. u.cells r k) c j)
      go (inr e) = rw e (omega (arith, u.cells i j))

  pub still_low : (m : ℕ) (a : PathAnswer) → UpTo (n + 1) (raised_by counts a) (cell_raised_by cells m a)
  still_low m a = record { rules = rule_low a; cells = λ r c. cell_low (m - 1) (column_of a) r c }

-- ---- what the programs are told of an answer

module _ (a b : PathAnswer) (e : a ≡ b) where
  pub raised_as : (counts : List ℕ) → raised_by counts b ≡ raised_by counts a
  raised_as counts = ap (raised_by counts) (sym e)

  pub placed_as : Placed a → Placed b
  placed_as p = rw (sym e) p

pub column_small : (a : PathAnswer) → column_of a < 3
unfolding column_of
column_small (Permit r) = omega arith
column_small (Deny r) = omega arith
column_small Default = omega arith
column_small (Refused n l) = omega arith

-- ---- before the first line

zeros_low : (n i : ℕ) → get_or (replicate n 0) i 0 ≤ 0
zeros_low zero i = omega arith
zeros_low (suc n) zero = omega arith
zeros_low (suc n) (suc i) = zeros_low n i

cells_low : (r c : ℕ) → cell_of (replicate 2 (replicate 3 0)) r c ≤ 0
cells_low zero c = zeros_low 3 c
cells_low (suc zero) c = zeros_low 3 c
cells_low (suc (suc r)) c = zeros_low 0 c

pub none_up_to : UpTo 0 (replicate max_rules 0) (replicate 2 (replicate 3 0))
none_up_to = record { rules = zeros_low max_rules; cells = cells_low }
