-- `push_fact` adds the name, the number and the end of the line.
use mathlib.Core.List.{append_assoc}
use Rattle.text_make.specs.Text.{fact}
use Rattle.text_make.proofs.Text.push_fact.Goals as goal

pub returns-clause-added : goal.returns-clause-added
unfolding fact
returns-clause-added g c = simp (append_assoc, c.push_str.ensures, c.push_decimal.ensures.added, c.push.ensures)
