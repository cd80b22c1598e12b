-- `stands_at` equals its definition.
use mathlib.Core.Path.{sym, ◌∙◌}
use Rattle.readable_packed.proofs.Packing.{too_short, long_enough}
use Rattle.readable_packed.proofs.stands_at.Goals as goal

pub returns-then-s-at : goal.returns-then-s-at
returns-then-s-at c = too_short _ _ _ c.requires c.if-s-at.true

pub returns : goal.returns
returns c =
    c.is_same.ensures ∙ sym (long_enough _ _ _ c.requires c.if-s-at.false)
