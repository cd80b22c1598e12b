use Rattle.std.proofs.Common.{◌≡◌}
use Rattle.text.specs.Frame.{times}
use Rattle.path.specs.Bytes.{key}
use Rattle.path.specs.Walk.{twice_in}
use Rattle.path_frame.proofs.has_twice.Given as goal

-- No key passed has a name that comes again, so the keys from p on decide.
abbrev pub invariant-loop-later : goal.invariant-loop-later
invariant-loop-later l = twice_in (times l.count key l.f l.at) ≡ twice_in (times l.later key l.f l.p)
