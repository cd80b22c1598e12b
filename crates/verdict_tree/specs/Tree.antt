-- What is kept of the rules for the tree verdict, and the tests that its loops make. specs/Given says what its functions take and answer.
use Rattle.std.specs.Prelude.{◌≡◌, ℕ, suc, ◌+◌, ◌*◌, ◌/◌, ◌%◌, ◌≤◌, ◌<◌, Bool, true, List, length, get_or}
use Rattle.std.specs.Bool.{xor}
use Rattle.limits.specs.Limits.{max_rules}
use Rattle.text.specs.Test.{◌and◌, whether◌then◌else◌}
use Rattle.path.specs.Path.{Path}
use Rattle.table.specs.Table.{Rule}
use Rattle.verdict.specs.Join.{agree}
use Rattle.verdict.specs.Pair.{covers_both}
use Rattle.verdict.specs.Order.{better, choose}
use Rattle.verdict.specs.Rank.{rank}
use Rattle.verdict.specs.Verdict.{action}
use Rattle.verdict_filter.specs.declared.Filter.{Filter}
use Rattle.text_hash.specs.declared.Seed.{Seed}
use Rattle.verdict_filter.specs.Bloom.{none, beyond}
use Rattle.verdict_judge.specs.Placed.{nth}
use Rattle.verdict_judge.specs.declared.rules.PlacedRules.{PlacedRules}

-- ---- the tests

-- the rule passes `app`, and its path agrees with p
abbrev pub fitting : (Rule → Bool) → Path → Rule → Bool
fitting app p r = app r and agree r.path p

-- the rule passes `app`, and covers the joined path of r and p
abbrev pub matching_both : (Rule → Bool) → Path → Path → Rule → Bool
matching_both app r p s = app s and covers_both s.path r p

-- the action of the best rule for the joined path of r and p
abbrev pub permits_both : (Rule → Bool) → List Rule → Path → Path → Bool
permits_both app rules r p = action (choose better (matching_both app r p) 0 rules)

-- the rule passes `app`, and its joined path with p gets another action than v
abbrev pub opposing : (Rule → Bool) → List Rule → Path → Bool → Rule → Bool
opposing app rules p v r = app r and xor (permits_both app rules r.path p) v

-- ---- weights

-- a rule's rank and 1, or 0 where it fails the test
unfoldable pub weight : (Rule → Bool) → Rule → ℕ
weight test r = whether test r then suc (rank r) else 0

-- of each of the first n rules its weight and its number, as one number
abbrev pub Weights : (Rule → Bool) → PlacedRules → List ℕ → ℕ → Type 0
Weights test R weights n = (i : ℕ) → i < n → get_or weights i 0 ≡ weight test (nth R i) * max_rules + i

-- more than any of these numbers
abbrev pub top_weight : ℕ
top_weight = 9223372036854775808

pub record Packed (x i : ℕ) : Type 0 where
  pub number : x % max_rules ≡ i
  pub light : x < top_weight

-- the weight is not 0: the rule fits
abbrev pub Fits : ℕ → Type 0
Fits x = max_rules ≤ x

-- r is the greatest of the first n weights that are less than the limit, or 0 where none is
pub record Below (weights : List ℕ) (n limit r : ℕ) : Type 0 where
  pub top : (j : ℕ) → j < n → get_or weights j 0 < limit → get_or weights j 0 ≤ r
  pub there : 0 < r → (j : ℕ) × (j < n) × (get_or weights j 0 ≡ r)
  pub less : 0 < r → r < limit

-- those of the first n rules that fit have what their paths have beyond p
abbrev pub Filters : Seed → PlacedRules → List ℕ → Path → List Filter → ℕ → Type 0
Filters s R weights p filters n = (i : ℕ) → i < n → Fits (get_or weights i 0) → get_or filters i none ≡ beyond s 0 (nth R i).path p

-- after each of the first k that fits the next in weight
abbrev pub Nexts : List ℕ → List ℕ → ℕ → ℕ → Type 0
Nexts weights next n k = (i : ℕ) → i < k → Fits (get_or weights i 0) → Below weights n (get_or weights i 0) (get_or next i 0)

-- what is kept of the rules, p being asked; the first in weight is `first`
pub record Prepared (R : PlacedRules) (weights next : List ℕ) (filters : List Filter) (first : ℕ) (p : Path) : Type 0 where
  pub each_weight : R.count ≤ length weights
  pub each_next : R.count ≤ length next
  pub each_filter : R.count ≤ length filters
  pub packed : (i : ℕ) → i < R.count → Packed (get_or weights i 0) i
  pub start : Below weights R.count top_weight first
  pub nexts : Nexts weights next R.count R.count
  pub filtered : (s : Seed) × Filters s R weights p filters R.count

-- ---- the deciding rule

-- rule d covers the joined path of rule i's and p, and none that covers it weighs more
pub record Heaviest (R : PlacedRules) (weights : List ℕ) (p : Path) (i d : ℕ) : Type 0 where
  pub inside : d < R.count
  pub fits : Fits (get_or weights d 0)
  pub covering : covers_both (nth R d).path (nth R i).path p ≡ true
  pub unbeaten : (j : ℕ) → j < R.count → covers_both (nth R j).path (nth R i).path p ≡ true
      → get_or weights j 0 / max_rules ≤ get_or weights d 0 / max_rules
