-- `time` stores the 8 bytes for which the last 16 digits stand.
use native.Mathlib.Omega.{arith}
use mathlib.Core.Path.{refl}
use Rattle.readable_parts.specs.Steps.{stops}
use Rattle.readable_packed.proofs.Packing.{time_unpacked, digits_are, time_bad, time_short, time_eight, time_puts}
use Rattle.readable_packed.proofs.time.Goals as goal

pub returns-then-s-at-ne16 : goal.returns-then-s-at-ne16
returns-then-s-at-ne16 c = stops (time_unpacked _ _ c.if-s-at-ne16.true)

pub returns-in_default : goal.returns-in_default
returns-in_default c =
    stops (time_bad c.args.s.now c.args.at _
    (digits_are c.args.s.now c.args.at c.requires.1 c.if-s-at-ne16.false _ _ refl
    c.copy.ensures) c.if-s-at-ne16.false _ c.read_line.ensures.value c.in_default.is)

pub returns-then-next-ne17 : goal.returns-then-next-ne17
returns-then-next-ne17 c =
    stops (time_short c.args.s.now c.args.at _
    (digits_are c.args.s.now c.args.at c.requires.1 c.if-s-at-ne16.false _ _ refl
    c.copy.ensures) c.if-s-at-ne16.false _ c.read_line.ensures.value _ c.in-Some.is c.if-next-ne17.true)

pub overflow_add-result : goal.overflow_add-result
overflow_add-result c =
    omega (
      arith,
      time_eight c.args.s.now c.args.at _
          (digits_are c.args.s.now c.args.at c.requires.1 c.if-s-at-ne16.false _ _ refl
          c.copy.ensures) c.if-s-at-ne16.false _ c.read_line.ensures.value _
          c.in-Some.is c.if-next-ne17.false,
      c.requires.0,
    )

pub returns : goal.returns
returns c =
    time_puts c.args.s.now c.args.at _
    (digits_are c.args.s.now c.args.at c.requires.1 c.if-s-at-ne16.false _ _ refl
    c.copy.ensures) c.if-s-at-ne16.false _ c.read_line.ensures.value _
    c.in-Some.is c.if-next-ne17.false _ _ _ c.read_line.ensures.out_after
