use native.Mathlib.Omega.{arith}
use Rattle.text_make.proofs.Pieces.{nothing_added}
use Rattle.season_sum.proofs.Written.{none_written, more_written}
use Rattle.season_sum.proofs.writing.add_lines.Goals as goal

pub loop-figure-init : goal.loop-figure-init
loop-figure-init g c = record { added = rw none_written (nothing_added c.args.text.now); short = omega arith }

pub loop-figure-preserved : goal.loop-figure-preserved
loop-figure-preserved g c =
    record {
      added = rw (c.push_fact.ensures.added, c.loop-figure.invariant.added)
          (more_written c.args.text.now c.args.figures.now c.loop-figure.figure-index c.loop-figure-test.true);
      short = omega (arith, c.loop-figure.invariant.short, c.push_fact.ensures.short);
    }
