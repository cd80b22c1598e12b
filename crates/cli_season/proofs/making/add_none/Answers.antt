-- `add_none` looks whether the list ends where it starts.
use native.Mathlib.Omega.{arith}
use lib.ListN.{length}
use borrow.Author.Tests.{eq-eqb, ne_eqb}
use Rattle.text.specs.Test.{whether◌then◌else◌}
use Rattle.text_make.proofs.Pieces.{nothing_added}
use Rattle.cli_season.specs.Steps.{none_from}
use Rattle.cli_season.proofs.making.add_none.Goals as goal

pub returns-then-len-start-clause-added : goal.returns-then-len-start-clause-added
unfolding none_from whether◌then◌else◌
returns-then-len-start-clause-added c = rw (eq-eqb c.args.start (length c.args.text.now) (omega (arith, c.if-len-start.true, c.len.ensures))) c.push_str.ensures

pub returns-else-len-start-clause-added : goal.returns-else-len-start-clause-added
unfolding none_from whether◌then◌else◌
returns-else-len-start-clause-added c = rw (ne_eqb c.args.start (length c.args.text.now) (λ e. c.if-len-start.false (omega (arith, e, c.len.ensures)))) (nothing_added c.args.text.now)
