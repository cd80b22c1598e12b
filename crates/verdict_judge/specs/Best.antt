-- The best rule so far, as programs keep it, the test that the loop over the rules makes, and what the loop answers. f are the decoded bytes.
use Rattle.std.specs.Prelude.{◌≡◌, ℕ, ◌<◌, Bool, true, List, Option, Some, None}
use Rattle.std.proofs.Math.Option as math
use Rattle.text.specs.Test.{◌and◌}
use Rattle.path.specs.Path.{Path}
use Rattle.table.specs.Table as table
use Rattle.verdict.specs.Cover.{covers}
use Rattle.verdict.specs.Order as order
use Rattle.verdict.specs.Order.{better, prefer, candidate, choose}
use Rattle.table_rows.specs.Rules.{rule_in, rules_in}
use Rattle.verdict_judge.specs.Rules.{Marked}
use Rattle.verdict_judge.specs.Place.{rule, of_rules, marked}
use Rattle.verdict_judge.specs.declared.rules.Rules.{Rules}
use Rattle.verdict_judge.specs.declared.rules.Numbered.{Numbered}
use Rattle.verdict_judge.specs.declared.rules.Best.{Best}

-- the rule, with its number
unfoldable pub numbered : Numbered → order.Numbered
numbered n = record { number = n.number.0; rule = rule n.rule }

-- the rule that is kept, if there is one
unfoldable pub held : Option Numbered → math.Option order.Numbered
held None = math.none
held (Some n) = math.some (numbered n)

unfoldable pub kept : Option Best → math.Option order.Numbered
kept None = math.none
kept (Some b) = math.some (numbered b.found)

-- there is none yet, or the rule is over it
unfoldable pub wins : (table.Rule → table.Rule → Bool) → table.Rule → math.Option order.Numbered → Bool
wins over r math.none = true
wins over r (math.some m) = over r m.rule

-- the rule passes `app`, and its path covers p
abbrev pub matching : (table.Rule → Bool) → Path → table.Rule → Bool
matching app p s = app s and covers s.path p

-- where there is one, its number is below n
abbrev pub NumberBelow : ℕ → math.Option order.Numbered → Type 0
NumberBelow n x = (m : order.Numbered) → x ≡ math.some m → m.number < n

-- c is the best after b and rule i, where that passes and its path covers p
pub record Taken (b : Option Best) (i : ℕ) (r : table.Rule) (p : Path) (c : Option Best) : Type 0 where
  pub below : (n : ℕ) → i < n → NumberBelow n (kept b) → NumberBelow n (kept c)
  pub best : (app : table.Rule → Bool) → app r ≡ true → kept c ≡ prefer better (kept b) (candidate (matching app p) i r)

-- x is the best of the marked rules whose path covers p
pub record BestMarked (R : Rules) (on : List Bool) (p : Path) (x : math.Option order.Numbered) : Type 0 where
  pub below : NumberBelow R.count x
  pub best : (app : table.Rule → Bool) → marked app R on → x ≡ choose better (matching app p) 0 (of_rules R)
