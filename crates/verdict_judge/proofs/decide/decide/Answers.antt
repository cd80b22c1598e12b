use native.Mathlib.Omega.{arith}
use mathlib.Core.Path.{sym, ◌∙◌}
use mathlib.Core.Bool.{Bool}
use mathlib.Core.List.{List}
use Prim.Native.Nat.{ℕ, ◌≤◌}
use Rattle.std.specs.Prelude.{Option}
use Rattle.path.specs.Path.{Path}
use Rattle.table.specs.Table.{Rule}
use Rattle.verdict.specs.Cover.{covers}
use Rattle.verdict.specs.Order.{better}
use Rattle.verdict.proofs.Order.{better_order}
use Rattle.verdict_compare.specs.Place.{elements}
use Rattle.verdict_judge.specs.Best.{held, kept, matching, BestMarked}
use Rattle.verdict_judge.specs.declared.rules.Best.{Best}
use Rattle.verdict_judge.specs.declared.rules.Rules.{Rules}
use Rattle.verdict_judge.proofs.Steps.{step_off, best_none, best_turn, best_end}
use Rattle.verdict_judge.proofs.Below.{none_below}
use Rattle.verdict_judge.proofs.decide.decide.Invariants.{BestSoFar}
use Rattle.verdict_judge.proofs.decide.decide.Goals.{then-on-i, else-on-i}
use Rattle.verdict_judge.proofs.decide.decide.Goals as goal

pub loop-i-init : goal.loop-i-init
unfolding kept
loop-i-init c =
    let R = c.args.rules in
    record {
      below = none_below _;
      best = λ app h. best_none better better_order (matching app (elements c.args.asked)) R.bytes.now R.starts.now R.count;
    }

pub overflow_cast-number : goal.overflow_cast-number
overflow_cast-number c = let few = c.args.rules.safe.few in omega arith

pub loop-i-preserved : goal.loop-i-preserved
loop-i-preserved c =
    let R = c.args.rules in
    let p = elements c.args.asked in
    let i = c.loop-i.i in
    let inv = c.loop-i.invariant in
    let l = c.loop-i-test.true in
    elim c.if-on-i.branch [
      | then-on-i w ↦
          let t = rw w.rule.ensures at w.take_match-best.ensures in
          rw w.best-is (record {
            below = t.below R.count l inv.below;
            best = λ app h. best_turn better better_order (matching app p) R.bytes.now R.starts.now R.count _ (kept c.loop-i.best) _ i l
                (t.best app (sym (h i l) ∙ w.if-on-i.true)) (inv.best app h);
          })
      | else-on-i w ↦
          let also : Rule → Bool = λ r. covers r.path p in
          rw w.best-is (record {
            below = inv.below;
            best = λ app h. best_turn better better_order (matching app p) R.bytes.now R.starts.now R.count _ (kept c.loop-i.best) _ i l
                (step_off better _ _ _ app also (sym (h i l) ∙ w.if-on-i.false)) (inv.best app h);
          })
    ]

module _ (R : Rules) (on : List Bool) (p : Path) (b : Option Best) (i : ℕ) (l : R.count ≤ i) (inv : BestSoFar R on p b i) where
  all : BestMarked R on p (kept b)
  all = record {
    below = inv.below;
    best = λ app h. best_end better better_order (matching app p) R.bytes.now R.starts.now R.count _ (kept b) i l (inv.best app h);
  }

pub returns-in-Some : goal.returns-in-Some
unfolding held kept
returns-in-Some c =
    rw c.in-Some.is at (all c.args.rules c.args.on.now (elements c.args.asked) c.loop-i.best c.loop-i.i c.loop-i-test.false c.loop-i.invariant)

pub returns-in-None : goal.returns-in-None
unfolding held kept
returns-in-None c =
    rw c.in-None.is at (all c.args.rules c.args.on.now (elements c.args.asked) c.loop-i.best c.loop-i.i c.loop-i-test.false c.loop-i.invariant)
