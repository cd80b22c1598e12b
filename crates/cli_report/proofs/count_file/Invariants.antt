-- `count_file` counts part after part.
use Prim.Native.Nat.{◌≤◌}
use lib.ListN.{length}
use Rattle.season_count.specs.Loaded.{Remembered}
use Rattle.cli_report.proofs.Counting.{SoFar}
use Rattle.cli_report.proofs.count_file.Given as goal

-- the lines before are counted and are a log, and an unfinished one stands from `from` on
abbrev pub invariant-loop-parts : goal.invariant-loop-parts
invariant-loop-parts l = record {
  kept : Remembered l.table l.run;
  unfinished : l.from ≤ l.to;
  within : l.to ≤ length l.part;
  counted : SoFar l.table l.tally;
}
