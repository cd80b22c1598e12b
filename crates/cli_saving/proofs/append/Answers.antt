-- `append` answers a count of the buffer's bytes.
use native.Mathlib.Omega.{arith}
use mathlib.Core.Path.{sym}
use lib.Seq.{length-take-le}
use Rattle.cli_saving.proofs.append.Goals as goal

pub returns-then-s-out : goal.returns-then-s-out
returns-then-s-out c = (omega arith, sym (length-take-le _ _ (omega arith)))

pub returns : goal.returns
returns c = (omega arith, sym (length-take-le _ _ (omega arith)))
