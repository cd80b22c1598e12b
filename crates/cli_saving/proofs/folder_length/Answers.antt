use native.Mathlib.Omega.{arith}
use mathlib.Core.Path.{sym}
use lib.Seq.{length-take-le}
use Rattle.cli_saving.proofs.folder_length.Goals as goal

pub returns-then-path-i-eq47 : goal.returns-then-path-i-eq47
returns-then-path-i-eq47 c = (omega arith, sym (length-take-le _ _ (omega arith)))
