-- The heaviest rule that covers a joined path has the action of the best.
use mathlib.Core.Path.{◌≡◌, sym, ap, ◌∙◌}
use mathlib.Core.Bool.{Bool, true, false, xor}
use mathlib.Core.List.{List}
use mathlib.Core.Option.{Option, none, some}
use Prim.Native.Nat.{ℕ, ◌+◌, ◌≤◌, ◌<◌}
use native.Mathlib.Decide.{dec_lt}
use native.Mathlib.Omega.{arith}
use borrow.Author.Tests.{lt-ltb}
use lib.ListN.{get_or}
use Rattle.limits.specs.Limits.{max_rules}
use Rattle.text.specs.Test.{◌and◌, ◌∈◌}
use Rattle.text.proofs.Tests.{clash, and_l, and_r, both}
use Rattle.text.proofs.Order.{more_other}
use Rattle.path.specs.Path.{Path}
use Rattle.table.specs.Table.{Rule}
use Rattle.verdict.specs.Pair.{covers_both}
use Rattle.verdict.specs.Order.{better, Numbered, choose}
use Rattle.verdict.specs.Rank.{rank}
use Rattle.verdict.specs.Verdict.{action}
use Rattle.verdict.proofs.Order.{better_order, better_rank, rank_permit}
use Rattle.verdict.proofs.Choose.{Chosen, chosen}
use Rattle.verdict.proofs.Paths.{covers_both_lem, covers_join_left}
use Rattle.verdict_judge.specs.Rules.{Placed}
use Rattle.verdict_judge.specs.Placed.{nth, of_rules}
use Rattle.verdict_judge.specs.declared.rules.PlacedRules.{PlacedRules}
use Rattle.verdict_judge.proofs.Parts.{keys_below}
use Rattle.verdict_judge.proofs.Numbers.{rule_there, rule_number}
use Rattle.verdict_tree.specs.Tree.{matching_both, permits_both, Weights, Heaviest}
use Rattle.verdict_tree.proofs.Weights.{fit, ranked}

-- a rule covers its joined path with any other
pub own_join : (r p : Path) → covers_both r r p ≡ true
own_join r p = sym (covers_both_lem r r p) ∙ covers_join_left r p

module _ (R : PlacedRules) (weights : List ℕ) (test : Rule → Bool) (ws : Weights test R weights R.count) where
  abbrev rs : Placed R.bytes.now R.starts.now R.count
  rs = R.placed

  few : R.count ≤ max_rules
  few = R.few

  abbrev rule : ℕ → Rule
  rule j = nth R j

  abbrev rules : List Rule
  rules = of_rules R

  listed : (j : ℕ) → j < R.count → rule j ∈ rules
  listed j l = let z : 0 + j ≡ j = omega arith in rw z at (rule_there R.bytes.now R.starts.now R.count j 0 l)

  -- of two rules, the first no better and no lighter, the actions are one
  alike : (d j : ℕ) → d < R.count → j < R.count → rank (rule j) ≤ rank (rule d) → better (rule d) (rule j) ≡ false → (rule j).permit ≡ (rule d).permit
  alike d j a b h e = go (dec_lt (rank (rule j)) (rank (rule d)))
    where
      go : Dec (rank (rule j) < rank (rule d)) → (rule j).permit ≡ (rule d).permit
      go (yes l) =
          clash
          (better_rank (rule d) (rule j) (keys_below R.bytes.now _ (rs.laid d a) rs.short) (keys_below R.bytes.now _ (rs.laid j b) rs.short) ∙ more_other (rank (rule d)) (rank (rule j)) _ (omega arith) ∙ lt-ltb (rank (rule j)) (rank (rule d)) l)
          e
      go (no l) = rank_permit (rule j) (rule d) (omega arith)

  module _ (p : Path) (i d : ℕ) (l : i < R.count) (h : Heaviest R weights p i d) where
    abbrev passes : Rule → Bool
    passes = matching_both test (rule i).path p

    heaviest : passes (rule d) ≡ true
    heaviest =
        let m = h.inside in
        let w = few in
        both _ _ (fit test (rule d) d (get_or weights d 0) (omega arith) (ws d m) h.fits) h.covering

    -- the best of those that pass, whose number is j
    best_alike : (j : ℕ) → j < R.count → passes (rule j) ≡ true → better (rule d) (rule j) ≡ false → (rule j).permit ≡ (rule d).permit
    best_alike j m e b =
        let k = h.inside in
        let w = few in
        let x = ranked test (rule j) j (get_or weights j 0) (omega arith) (ws j m) (and_l _ _ e) in
        let y = ranked test (rule d) d (get_or weights d 0) (omega arith) (ws d k) (and_l _ _ heaviest) in
        let z = h.unbeaten j m (and_r _ _ e) in
        alike d j k m (omega arith) b

    pub decided_by_lem : permits_both test rules (rule i).path p ≡ (rule d).permit
    unfolding action
    decided_by_lem = go (choose better passes 0 rules) (chosen better_order passes rules 0)
      where
        go : (o : Option Numbered) → Chosen better passes rules o → action o ≡ (rule d).permit
        go none c = clash heaviest (c (rule d) (listed d h.inside))
        go (some m) c =
            let q = rule_number R.bytes.now R.starts.now R.count 0 m.rule c.listed in
            let z : 0 + q.0 ≡ q.0 = omega arith in
            let e : rule q.0 ≡ m.rule = rw z at q.2 in
            let b : better (rule d) (rule q.0) ≡ false = rw e (c.unbeaten (rule d) (listed d h.inside) heaviest) in
            let t : passes (rule q.0) ≡ true = rw e c.passes in
            ap (λ (r : Rule). r.permit) (sym e) ∙ best_alike q.0 q.1 t b
