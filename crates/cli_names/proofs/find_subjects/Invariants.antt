-- `find_subjects` goes from rule to rule.
use Rattle.cli_names.proofs.Gathering.{Finding}
use Rattle.cli_names.proofs.find_subjects.Given as goal

-- The users of the first i rules stand at the first m places.
abbrev pub invariant-loop-i : goal.invariant-loop-i
invariant-loop-i l = Finding l.f l.starts l.n l.initial.places l.places l.m l.i
