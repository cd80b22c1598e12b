-- `write_keys` stores the text of each key in turn.
use Prim.Native.Nat.{◌-◌}
use Rattle.text.specs.String.{joined}
use Rattle.text.specs.Frame.{times}
use Rattle.path.specs.Bytes.{key}
use Rattle.path_read.specs.Text.{key_text}
use Rattle.path_write.specs.Steps.{written, end_at}
use Rattle.path_write.proofs.Writing.{Writing}
use Rattle.path_write.proofs.write_keys.Given as goal

-- The keys passed are written, up to `place.to` in `out`; the others, from `place.from` on, are still to be, and there is room for them.
abbrev pub invariant-loop : goal.invariant-loop
invariant-loop l = Writing key_text l.initial.out l.to (written (joined key_text) (times l.count key l.f l.from)) (end_at (times l.count key l.f l.from)) (times (l.count - l.counter) key l.f l.place.from) l.out l.place.to
