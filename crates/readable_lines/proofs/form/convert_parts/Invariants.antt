-- `convert_parts` goes through the form.
use Rattle.readable_lines.specs.Steps.{parts_by}
use Rattle.readable_lines.proofs.Converting.{Going}
use Rattle.readable_lines.proofs.form.convert_parts.Given as goal

-- The parts of the form before the index are converted, as far as `done` says. Those from there on, read from `done.next` on, complete the line.
abbrev pub invariant-loop-c : goal.invariant-loop-c
invariant-loop-c l = Going (parts_by l.direction) l.form l.s l.at l.initial.out l.to l.c-index l.done.next l.out l.done.end
