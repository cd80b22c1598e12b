use native.Mathlib.Omega.{arith}
use mathlib.Core.Path.{◌∙◌, sym, ap}
use lib.ListN.{length}
use Rattle.cli_console.proofs.Quoting.{quoted_none, quoted_more}
use Rattle.cli_console.proofs.quote.part.Goals as goal

pub loop-b-init : goal.loop-b-init
loop-b-init c = record { made = c.new-text.ensures ∙ sym quoted_none; short = omega (arith, ap length c.new-text.ensures) }

pub loop-b-preserved : goal.loop-b-preserved
loop-b-preserved c =
    record {
      made = c.add_byte.ensures.added ∙ rw c.loop-b.invariant.made (quoted_more c.args.s.now c.loop-b.b-index c.loop-b-test.true);
      short = omega (arith, c.loop-b.invariant.short, c.add_byte.ensures.short);
    }
