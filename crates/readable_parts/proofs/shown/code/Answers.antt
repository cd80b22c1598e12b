-- `code` stores the word of the code byte.
use native.Mathlib.Omega.{arith}
use mathlib.Core.Path.{refl}
use Rattle.readable_parts.specs.Steps.{puts, stops}
use Rattle.readable_parts.proofs.Showing.{code_past, code_first, code_second, code_other}
use Rattle.readable_parts.proofs.shown.code.Goals as goal

pub returns-then-f-at : goal.returns-then-f-at
returns-then-f-at c = stops (code_past _ _ _ _ _ c.if-f-at.true)

pub returns-then-c-n : goal.returns-then-c-n
returns-then-c-n c =
    puts (code_first _ _ _ _ _ c.if-f-at.false c.if-c-n.true)
    (record { ends = refl; same = c.copy.ensures }) c.requires.1 (omega arith)

pub returns-then-c-n-2 : goal.returns-then-c-n-2
returns-then-c-n-2 c =
    puts (code_second _ _ _ _ _ c.if-f-at.false c.if-c-n.false c.if-c-n-2.true)
    (record { ends = refl; same = c.copy-then-c-n-2.ensures }) c.requires.2 (omega arith)

pub returns : goal.returns
returns c =
    stops (code_other _ _ _ _ _ c.if-f-at.false c.if-c-n.false c.if-c-n-2.false)
