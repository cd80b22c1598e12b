-- `count_file` counts the log part by part.
use native.Mathlib.Omega.{arith}
use Rattle.std.proofs.Common.{rules}
use Rattle.season_call.proofs.Reporting.{nothing_remembered, lines_counted}
use Rattle.cli_report.proofs.Counting.{nothing_so_far, so_far_longer}
use Rattle.cli_report.proofs.count_file.Goals as goal

pub loop-parts-init : goal.loop-parts-init
loop-parts-init c = record {
  kept = nothing_remembered _ _ c.new-run.ensures;
  unfinished = omega arith;
  within = omega arith;
  counted = nothing_so_far _ _ c.new-tally.ensures;
}

pub returns-then-to-lt65536 : goal.returns-then-to-lt65536
returns-then-to-lt65536 c =
    (so_far_longer _ _ _ _ _ c.loop-parts.invariant.counted (lines_counted _ _ _ _ _ _ c.count_lines.ensures _ c.in_default.is)).read

pub loop-parts-preserved : goal.loop-parts-preserved
loop-parts-preserved c =
    let C = lines_counted _ _ _ _ _ _ c.count_lines.ensures _ c.in_default.is in record {
      kept = C.kept;
      unfinished = search rules;
      within = search rules;
      counted = so_far_longer _ _ _ _ _ c.loop-parts.invariant.counted C;
    }
