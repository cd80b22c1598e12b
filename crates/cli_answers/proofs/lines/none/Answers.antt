-- `none` is the definition.
use Rattle.std.proofs.Common.{inl, inr}
use Rattle.cli_answers.specs.Lines.{none_lines}
use Rattle.cli_answers.proofs.lines.none.Goals as goal

pub returns-in-Default-clause-value : goal.returns-in-Default-clause-value
unfolding none_lines
returns-in-Default-clause-value c = elim c.in-Default.is [ inl e ↦ rw e | inr e ↦ rw e ]

pub returns-in-Factory-clause-value : goal.returns-in-Factory-clause-value
unfolding none_lines
returns-in-Factory-clause-value c = rw c.in-Factory.is
