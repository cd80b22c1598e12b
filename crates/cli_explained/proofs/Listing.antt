-- The lines of a ranking, one after another.
use Prim.Native.Nat.{ℕ, zero, suc, ◌+◌, ◌*◌, ◌≤◌, ◌<◌}
use native.Mathlib.Omega.{arith}
use native.Mathlib.Numerals.{add-one}
use mathlib.Core.Path.{◌≡◌, refl, sym}
use mathlib.Core.List.{List, [], ◌∷◌, ◌++◌, append-nil, append_assoc}
use lib.ListN.{length, take, get_or}
use lib.Seq.{take-suc, length-take-le, get_or-take}
use Rattle.table.specs.Table.{Rule}
use Rattle.table_rows.specs.Rules.{rule_in, rules_in}
use Rattle.table_rows.proofs.Grow.{rows_at}
use Rattle.cli_explained.specs.Explained.{ranked_line, no_rule, rule_of, lines_from, ranking_lines}
use Rattle.cli_explained.specs.Steps.{max_ranked_line}

-- ---- the lines

lines_more : (rules : List Rule) (best : Rule) (place : ℕ) (xs : List ℕ) (n : ℕ)
    → lines_from rules best place (xs ++ (n ∷ [])) ≡ lines_from rules best place xs ++ ranked_line (place + length xs) n (rule_of rules n) best
unfolding lines_from
lines_more rules best place [] n = let e : place + 0 ≡ place = omega arith in rw e (append-nil (ranked_line place n (rule_of rules n) best))
lines_more rules best place (x ∷ xs) n =
    let e : place + length (x ∷ xs) ≡ place + 1 + length xs = omega arith in
    rw (lines_more rules best (place + 1) xs n, e)
    (sym (append_assoc (ranked_line place x (rule_of rules x) best) (lines_from rules best (place + 1) xs) (ranked_line (place + 1 + length xs) n (rule_of rules n) best)))

-- the first rule of the ranking is the first of `order`
lines_all : (rules : List Rule) (order : List ℕ) (m : ℕ) → ranking_lines rules (take m order) ≡ lines_from rules (rule_of rules (get_or order 0 0)) 1 (take m order)
unfolding ranking_lines lines_from
lines_all rules order zero = refl
lines_all rules order (suc m) = rw (get_or-take (suc m) order 0 0 (omega arith))

-- ---- those of the first i rules were added to d

pub record Listed (rules : List Rule) (order d : List ℕ) (i : ℕ) (d' : List ℕ) : Type 0 where
  pub added : d' ≡ d ++ lines_from rules (rule_of rules (get_or order 0 0)) 1 (take i order)
  pub short : length d' ≤ length d + i * max_ranked_line

pub listed_none : (rules : List Rule) (order d : List ℕ) → Listed rules order d 0 d
unfolding lines_from
listed_none rules order d = record { added = sym (append-nil d); short = omega arith }

pub rule_there : (f starts : List ℕ) (n k : ℕ) → k < n → rule_in f (get_or starts k 0) ≡ rule_of (rules_in f starts n 0) k
unfolding rule_of rules_in
rule_there f starts n k h = let z : 0 + k ≡ k = omega arith in sym (rw z at (rows_at (λ j. rule_in f (get_or starts j 0)) n 0 k no_rule h))

module _ (f starts : List ℕ) (n : ℕ) (order d : List ℕ) (i : ℕ) (d' : List ℕ) (g : Listed (rules_in f starts n 0) order d i d') where
  pub listed_more : i < length order → get_or order i 0 < n → get_or order 0 0 < n → (d'' : List ℕ)
      → d'' ≡ d' ++ ranked_line (i + 1) (get_or order i 0) (rule_in f (get_or starts (get_or order i 0) 0)) (rule_in f (get_or starts (get_or order 0 0) 0))
      → length d'' ≤ length d' + max_ranked_line → Listed (rules_in f starts n 0) order d (i + 1) d''
  listed_more h k l d'' e b =
      let t : take (i + 1) order ≡ take i order ++ (get_or order i 0 ∷ []) = rw add-one (take-suc order i 0 h) in
      let p : 1 + length (take i order) ≡ i + 1 = omega (arith, length-take-le i order (omega arith)) in
      let q = lines_more (rules_in f starts n 0) (rule_of (rules_in f starts n 0) (get_or order 0 0)) 1 (take i order) (get_or order i 0) in
      record {
        added = rw (e, rule_there f starts n (get_or order i 0) k, rule_there f starts n (get_or order 0 0) l, g.added, t, q, p) (append_assoc d _ _);
        short = omega (arith, g.short, b);
      }

  pub listed_all : (m : ℕ) → i ≤ m → m ≤ i → d' ≡ d ++ ranking_lines (rules_in f starts n 0) (take m order)
  listed_all m h k = let e : m ≡ i = omega arith in rw (lines_all (rules_in f starts n 0) order m, e) g.added
