-- `after` equals its definition.
use native.Mathlib.Omega.{arith}
use borrow.Author.Tests.{ne_eqb}
use Rattle.text.specs.Test.{whether◌then◌else◌}
use Rattle.table_load.specs.Held.{counts_after}
use Rattle.table_load.proofs.row.Counts.after.Goals as goal

pub returns-in-2 : goal.returns-in-2
unfolding counts_after whether◌then◌else◌
returns-in-2 c = rw c.in-2.is

pub returns-in-3 : goal.returns-in-3
unfolding counts_after whether◌then◌else◌
returns-in-3 c = rw c.in-3.is

pub returns-in-4 : goal.returns-in-4
unfolding counts_after whether◌then◌else◌
returns-in-4 c = rw c.in-4.is

pub returns-in_default : goal.returns-in_default
unfolding counts_after whether◌then◌else◌
returns-in_default c =
    rw (ne_eqb c.args.kind 2 (λ e. absurd (omega arith)), ne_eqb c.args.kind 3 (λ e. absurd (omega arith)), ne_eqb c.args.kind 4 (λ e. absurd (omega arith)))
