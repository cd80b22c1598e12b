-- `within` is at most the buffer's length.
use native.Mathlib.Omega.{arith}
use mathlib.Core.Path.{sym}
use lib.Seq.{length-take-le}
use Rattle.cli_console.proofs.input.within.Goals as goal

pub returns-then-n-buf : goal.returns-then-n-buf
returns-then-n-buf c = (omega arith, sym (length-take-le _ _ (omega arith)))

pub returns-else-n-buf : goal.returns-else-n-buf
returns-else-n-buf c = (omega arith, sym (length-take-le _ _ (omega arith)))
