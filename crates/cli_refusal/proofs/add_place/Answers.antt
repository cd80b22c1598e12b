-- `add_place` adds the number of a line.
use borrow.Author.Tests.{eq-eqb, ne_eqb}
use mathlib.Core.List.{append_assoc}
use Rattle.text.specs.Test.{whether◌then◌else◌}
use Rattle.text_make.proofs.Pieces.{nothing_added}
use Rattle.cli_refusal.specs.Refusal.{place}
use Rattle.cli_refusal.proofs.add_place.Goals as goal

pub returns-then-line-ne0-clause-added : goal.returns-then-line-ne0-clause-added
unfolding place whether◌then◌else◌
returns-then-line-ne0-clause-added g c =
    rw (ne_eqb _ _ c.if-line-ne0.true) (simp (append_assoc, c.push_str.ensures, c.push_decimal.ensures.added))

pub returns-else-line-ne0-clause-added : goal.returns-else-line-ne0-clause-added
unfolding place whether◌then◌else◌
returns-else-line-ne0-clause-added g c = rw (eq-eqb _ _ c.if-line-ne0.false) (nothing_added c.args.text.now)
