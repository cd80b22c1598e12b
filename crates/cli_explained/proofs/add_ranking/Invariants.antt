-- `add_ranking` adds a line for each rule, in the order of the ranking.
use Rattle.table_rows.specs.Rules.{rules_in}
use Rattle.cli_explained.proofs.Listing.{Listed}
use Rattle.cli_explained.proofs.add_ranking.Given as goal

-- the lines of the first i rules are there
abbrev pub invariant-loop-i : goal.invariant-loop-i
invariant-loop-i g l = Listed (rules_in l.f l.starts l.n 0) l.order l.initial.text l.i l.text
