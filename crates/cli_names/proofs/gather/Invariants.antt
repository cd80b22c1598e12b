-- `gather` goes from name to name.
use Rattle.cli_names.proofs.Gathering.{Gathering}
use Rattle.cli_names.proofs.gather.Given as goal

-- Of the first i names those that are wanted stand in `kept`, `count` with those that stood there before.
abbrev pub invariant-loop-i : goal.invariant-loop-i
invariant-loop-i l = Gathering l.f l.starts l.n l.user l.initial.kept l.m l.kept l.count l.i
