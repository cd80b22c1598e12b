-- `add_fate` is the definition.
use borrow.Author.Tests.{eq-eqb, ne_eqb}
use mathlib.Core.List.{append_assoc}
use Rattle.text.specs.Test.{whether◌then◌else◌}
use Rattle.cli_explained.specs.Explained.{fate}
use Rattle.cli_explained.proofs.add_fate.Goals as goal

pub returns-then-place-eq1-clause-added : goal.returns-then-place-eq1-clause-added
unfolding fate whether◌then◌else◌
returns-then-place-eq1-clause-added g c = rw (eq-eqb _ _ c.if-place-eq1.true) c.push_str.ensures

pub returns-else-place-eq1-clause-added : goal.returns-else-place-eq1-clause-added
unfolding fate whether◌then◌else◌
returns-else-place-eq1-clause-added g c =
    rw (ne_eqb _ _ c.if-place-eq1.false)
    (simp (append_assoc, c.push_str-else-place-eq1.ensures, c.push_str-else-place-eq1-2.ensures, c.step_name.ensures.value, c.push_str-else-place-eq1-3.ensures))
