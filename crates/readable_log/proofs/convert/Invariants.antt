-- `convert` goes from line to line.
use Prim.Native.Nat.{◌-◌}
use lib.ListN.{length}
use Rattle.readable_lines.specs.Lines.{line_by}
use Rattle.readable_lines.specs.declared.Source.TheVariants.{Log}
use Rattle.readable_log.proofs.Running.{Running}
use Rattle.readable_log.proofs.convert.Given as goal

-- The lines before `next` are converted, and what is made of them stands at the start of `out`.
abbrev pub invariant-loop-next : goal.invariant-loop-next
invariant-loop-next l = Running (line_by Log l.direction) l.text l.most l.initial.out l.out l.next l.count l.made

abbrev pub decreases-loop-next : goal.decreases-loop-next
decreases-loop-next l = length l.text - l.next
