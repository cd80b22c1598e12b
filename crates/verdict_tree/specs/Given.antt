-- What the functions of the tree verdict take and answer.
use Rattle.std.specs.Prelude.{◌≡◌, ℕ, ◌<◌, ◌≤◌, Bool, List, length, get_or, Option}
use Rattle.path.specs.Path.{Path}
use Rattle.table.specs.Table.{Rule}
use Rattle.verdict.specs.Order.{earlier, prefer, candidate, choose}
use Rattle.verdict.specs.Rank.{top_rank}
use Rattle.verdict_judge.specs.Placed.{nth, of_rules, marked}
use Rattle.verdict_judge.specs.Best.{held}
use Rattle.verdict_judge.specs.declared.rules.Numbered.{Numbered}
use Rattle.verdict_judge.specs.declared.rules.PlacedRules.{PlacedRules}
use Rattle.verdict_tree.specs.Tree.{fitting, opposing, weight, Weights, Packed, Prepared}
use Rattle.verdict_tree.specs.declared.search.Search.{Search}
use Rattle.verdict_compare.specs.Place.{elements}

-- ---- what is kept

abbrev pub Ready : Search → Type 0
Ready s = Prepared s.rules s.weights.now s.next.now s.filters.now s.first (elements s.asked)

-- ---- weights

-- x is the weight of the rule, which is marked or not
pub record Weighs (r : Rule) (on : Bool) (p : Path) (x : ℕ) : Type 0 where
  pub light : x ≤ top_rank
  pub weighs : (app : Rule → Bool) → on ≡ app r → x ≡ weight (fitting app p) r

-- the rules were weighed, by whichever test
pub record Weighed (R : PlacedRules) (weights : List ℕ) : Type 0 where
  pub each : R.count ≤ length weights
  pub packed : (i : ℕ) → i < R.count → Packed (get_or weights i 0) i

-- what `weigh` answers, p being asked
pub record Weighing (R : PlacedRules) (on : List Bool) (weights : List ℕ) (p : Path) : Type 0 where
  pub each : R.count ≤ length weights
  pub packed : (i : ℕ) → i < R.count → Packed (get_or weights i 0) i
  pub weights_are : (app : Rule → Bool) → marked app R on → Weights (fitting app p) R weights R.count

-- ---- the opposing rule

-- c is the witness after b and rule i
abbrev pub Opposed : PlacedRules → List ℕ → Path → Bool → Option Numbered → ℕ → Option Numbered → Type 0
Opposed R weights p v b i c = (test : Rule → Bool) → Weights test R weights R.count
    → held c ≡ prefer earlier (held b) (candidate (opposing test (of_rules R) p v) i (nth R i))

-- c is the witness of all rules: of those that oppose v, the verdict on p, the one with the smallest id
abbrev pub Chosen : PlacedRules → List ℕ → Path → Bool → Option Numbered → Type 0
Chosen R weights p v c = (test : Rule → Bool) → Weights test R weights R.count
    → held c ≡ choose earlier (opposing test (of_rules R) p v) 0 (of_rules R)

-- the same by the marks
abbrev pub Witness : PlacedRules → List Bool → Path → Bool → Option Numbered → Type 0
Witness R on p v c = (app : Rule → Bool) → marked app R on
    → held c ≡ choose earlier (opposing (fitting app p) (of_rules R) p v) 0 (of_rules R)
