-- `add_groups` adds a line for each group of the set.
use Prim.Native.Nat.{◌+◌, ◌*◌, ◌≤◌}
use mathlib.Core.Path.{◌≡◌}
use mathlib.Core.List.{◌++◌}
use lib.ListN.{length}
use Rattle.table_membership.specs.Set.{numbers_in}
use Rattle.cli_answers.specs.Rows.{group_lines, max_group_line}
use Rattle.cli_answers.proofs.rows.add_groups.Given as goal

-- the lines of the groups below g are there
abbrev pub invariant-loop-g : goal.invariant-loop-g
invariant-loop-g g l = record {
  added : l.text ≡ l.initial.text ++ group_lines l.table (numbers_in l.set l.g 0);
  short : length l.text ≤ length l.initial.text + l.g * max_group_line;
}
