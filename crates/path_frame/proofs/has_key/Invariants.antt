use Rattle.std.proofs.Common.{◌≡◌, false, ◌-◌}
use Rattle.text.specs.Frame.{times}
use Rattle.path.specs.Bytes.{key}
use Rattle.path.specs.Walk.{has_name}
use Rattle.path_frame.proofs.has_key.Given as goal

-- `found` tells of the keys passed, so it and the keys from p on give the answer for all.
abbrev pub invariant-loop : goal.invariant-loop
invariant-loop l = has_name false l.name (times l.count key l.f l.at) ≡ has_name l.found l.name (times (l.count - l.counter) key l.f l.p)
