-- `convert_lines` goes from line to line.
use mathlib.Core.Bool.{false}
use mathlib.Core.Path.{◌≡◌}
use Prim.Native.Nat.{◌-◌}
use lib.ListN.{length}
use Rattle.readable_lines.specs.declared.Source.TheVariants.{Table}
use Rattle.readable_lines.specs.Lines.{line_by}
use Rattle.readable_lines.specs.Steps.{max_made_line}
use Rattle.readable.proofs.Laying.{Laying}
use Rattle.readable.proofs.convert_lines.Given as goal

-- The lines before `from` are laid into `out` up to `at`, and `number` counts the line at `from`; `piece` keeps its length.
abbrev pub invariant-loop-from : goal.invariant-loop-from
invariant-loop-from l = Laying (line_by Table l.direction) l.text l.initial.out l.from l.at l.number l.out × (length l.piece ≡ max_made_line)

abbrev pub decreases-loop-from : goal.decreases-loop-from
decreases-loop-from l = length l.text - l.from
