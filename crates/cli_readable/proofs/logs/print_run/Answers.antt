-- `print_run` prints what `convert` made.
use native.Mathlib.Omega.{arith}
use Rattle.cli_readable.proofs.logs.print_run.Goals as goal

pub returns : goal.returns
returns c =
    record {
      few = c.convert-run.ensures.few;
      inside = c.convert-run.ensures.inside;
      goes = λ e t m. c.convert-run.ensures.goes e t m (omega arith);
    }
