-- `find_entry` finds the entry.
use mathlib.Core.Path.{◌≡◌}
use mathlib.Core.Bool.{true}
use Prim.Native.Nat.{◌-◌, ◌≤◌}
use lib.ListN.{length, drop}
use Rattle.cli_refusal.specs.Entry.{entry}
use Rattle.cli_refusal.proofs.entry.find_entry.Given as goal

-- no line before `at` begins with the key
abbrev pub invariant-loop-at : goal.invariant-loop-at
invariant-loop-at l = (l.at ≤ length l.text) × (entry true l.key l.text ≡ entry true l.key (drop l.at l.text))

abbrev pub decreases-loop-at : goal.decreases-loop-at
decreases-loop-at l = length l.text - l.at
