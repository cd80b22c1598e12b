-- `word` answers a count of the buffer's bytes.
use native.Mathlib.Omega.{arith}
use mathlib.Core.Path.{sym}
use lib.Seq.{length-take-le}
use Rattle.cli_console.proofs.input.word.Goals as goal

pub returns-in-Ok : goal.returns-in-Ok
returns-in-Ok c = (omega arith, sym (length-take-le _ _ (omega arith)))
