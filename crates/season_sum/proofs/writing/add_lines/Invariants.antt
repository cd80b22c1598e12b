-- `add_lines` adds line after line.
use Prim.Native.Nat.{◌+◌, ◌*◌, ◌≤◌}
use mathlib.Core.Path.{◌≡◌}
use mathlib.Core.List.{◌++◌}
use lib.ListN.{length, take}
use Rattle.season_sum.specs.Figures.{report_text, max_figure_line}
use Rattle.season_sum.proofs.writing.add_lines.Given as goal

abbrev pub invariant-loop-figure : goal.invariant-loop-figure
invariant-loop-figure g l = record {
  added : l.text ≡ l.initial.text ++ report_text (take l.figure-index l.figures);
  short : length l.text ≤ length l.initial.text + l.figure-index * max_figure_line;
}
