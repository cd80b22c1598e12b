-- `reach` meets its definition.
use mathlib.Core.Path.{refl}
use mathlib.Core.Logic.{inl, inr}
use native.Mathlib.Omega.{arith}
use Rattle.season_count.proofs.lines.reach.Goals as goal

pub returns-then-end-from-le-MAX_LOG_LINE : goal.returns-then-end-from-le-MAX_LOG_LINE
returns-then-end-from-le-MAX_LOG_LINE c = record { within = omega arith; near = omega (arith, c.if-end-from-le-MAX_LOG_LINE.true); far = inl refl }

pub returns : goal.returns
returns c = record { within = omega (arith, c.if-end-from-le-MAX_LOG_LINE.false); near = omega arith; far = inr refl }
