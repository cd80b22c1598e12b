use mathlib.Core.Path.{sym, ◌∙◌}
use Rattle.verdict.specs.Cover.{covers}
use Rattle.verdict.specs.Order.{better}
use Rattle.table.specs.Table.{Rule}
use mathlib.Core.Bool.{Bool}
use Rattle.verdict_compare.specs.Place.{elements}
use Rattle.verdict_judge.specs.Best.{numbered, kept}
use Rattle.verdict_judge.proofs.Steps.{step_miss, step_keep, step_take}
use Rattle.verdict_judge.proofs.Below.{some_below}
use Rattle.verdict_judge.proofs.decide.take_match.Goals as goal

pub returns-then-not-covers : goal.returns-then-not-covers
returns-then-not-covers c =
    let also : Rule → Bool = λ w. covers w.path (elements c.args.asked) in
    record {
      below = λ n l h. h;
      best = λ app h. step_miss better _ _ _ app also (sym (rw c.path-path.ensures.path at c.covers.ensures) ∙ c.if-not-covers.true);
    }

pub returns-then-not-wins : goal.returns-then-not-wins
returns-then-not-wins c =
    let also : Rule → Bool = λ w. covers w.path (elements c.args.asked) in
    record {
      below = λ n l h. h;
      best = λ app h. step_keep better _ _ _ app also (sym c.wins.ensures ∙ c.if-not-wins.true);
    }

pub returns : goal.returns
unfolding kept numbered
returns c =
    let also : Rule → Bool = λ w. covers w.path (elements c.args.asked) in
    record {
      below = λ n l h. some_below n _ l;
      best = λ app h. step_take better _ _ _ app also h (sym (rw c.path-path.ensures.path at c.covers.ensures) ∙ c.if-not-covers.false)
          (sym c.wins.ensures ∙ c.if-not-wins.false);
    }
