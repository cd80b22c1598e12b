use mathlib.Core.Path.{◌≡◌}
use mathlib.Core.Bool.{Bool}
use mathlib.Core.List.{List}
use Prim.Native.Nat.{ℕ, ◌-◌, ◌≤◌}
use Rattle.std.specs.Prelude.{Option}
use Rattle.path.specs.Path.{Path}
use Rattle.table.specs.Table.{Rule}
use Rattle.verdict.specs.Order.{better, choose, prefer}
use Rattle.table_rows.specs.Rules.{rules_in}
use Rattle.verdict_compare.specs.Place.{elements}
use Rattle.verdict_judge.specs.Place.{of_rules, marked}
use Rattle.verdict_judge.specs.Best.{kept, NumberBelow, matching}
use Rattle.verdict_judge.specs.declared.rules.Best.{Best}
use Rattle.verdict_judge.specs.declared.rules.Rules.{Rules}
use Rattle.verdict_judge.proofs.decide.decide.Given as goal

-- b is the best of the first i rules: the best of all is the better of b and the best of those from i on
pub record BestSoFar (R : Rules) (on : List Bool) (p : Path) (b : Option Best) (i : ℕ) : Type 0 where
  pub below : NumberBelow R.count (kept b)
  pub best : (app : Rule → Bool) → marked app R on
      → choose better (matching app p) 0 (of_rules R)
      ≡ prefer better (kept b) (choose better (matching app p) i (rules_in R.bytes.now R.starts.now (R.count - i) i))

-- `best` is that of the rules before i
abbrev pub invariant-loop-i : goal.invariant-loop-i
invariant-loop-i l = BestSoFar l.rules l.on (elements l.asked) l.best l.i
