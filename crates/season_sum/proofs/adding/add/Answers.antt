use borrow.Author.Tests.{ltb-true}
use native.Mathlib.Omega.{arith}
use mathlib.Core.Path.{sym, ◌∙◌}
use Rattle.season_sum.proofs.Sums.{adding_start, adding_done, adding_stops, adding_more}
use Rattle.season_sum.proofs.adding.add.Goals as goal

pub loop-i-init : goal.loop-i-init
loop-i-init c = adding_start _ _

pub returns-then-not-is_sum : goal.returns-then-not-is_sum
returns-then-not-is_sum c =
    adding_stops _ _ _ _ c.loop-i.invariant (omega arith) (omega arith) (sym c.is_sum.ensures ∙ c.if-not-is_sum.true)

pub overflow_add-sums : goal.overflow_add-sums
overflow_add-sums c = record { fits = ltb-true _ _ (sym c.is_sum.ensures ∙ c.if-not-is_sum.false) }

pub loop-i-preserved : goal.loop-i-preserved
loop-i-preserved c =
    adding_more _ _ _ _ c.loop-i.invariant (omega arith) (omega arith) (sym c.is_sum.ensures ∙ c.if-not-is_sum.false)

pub returns : goal.returns
returns c = adding_done _ _ _ _ c.loop-i.invariant (omega arith)
