-- `keep` moves the bytes to the start.
use native.Mathlib.Omega.{arith}
use mathlib.Core.Path.{◌∙◌}
use Rattle.cli_parts.proofs.Keeping.{kept_is, kept_ends}
use Rattle.cli_parts.proofs.keep.Goals as goal

pub returns : goal.returns
returns c =
    record {
      ends = kept_ends c.args.buf.now c.args.from c.args.to c.requires.0 c.requires.1;
      same = c.copy_within.ensures.after ∙ kept_is c.args.buf.now c.args.from c.args.to c.requires.0 c.requires.1;
    }
