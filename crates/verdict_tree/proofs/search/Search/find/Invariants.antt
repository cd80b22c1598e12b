use mathlib.Core.Path.{◌≡◌}
use mathlib.Core.Bool.{Bool}
use Prim.Native.Nat.{◌-◌}
use Rattle.table.specs.Table.{Rule}
use Rattle.verdict.specs.Order.{earlier, choose, prefer}
use Rattle.table_rows.specs.Rules.{rules_in}
use Rattle.verdict_compare.specs.Place.{elements}
use Rattle.verdict_judge.specs.Placed.{of_rules}
use Rattle.verdict_judge.specs.Best.{held}
use Rattle.verdict_tree.specs.Tree.{opposing, Weights}
use Rattle.verdict_tree.proofs.search.Search.find.Given as goal

-- `found` is the witness of the first i rules: that of all is the earlier of it and the witness of those from i on
abbrev pub invariant-loop-i : goal.invariant-loop-i
invariant-loop-i l = (test : Rule → Bool) → Weights test l.self.rules l.self.weights.now l.self.rules.count
    → choose earlier (opposing test (of_rules l.self.rules) (elements l.self.asked) l.v) 0 (of_rules l.self.rules)
    ≡ prefer earlier (held l.found) (choose earlier (opposing test (of_rules l.self.rules) (elements l.self.asked) l.v) l.i
    (rules_in l.self.rules.bytes.now l.self.rules.starts.now (l.self.rules.count - l.i) l.i))
