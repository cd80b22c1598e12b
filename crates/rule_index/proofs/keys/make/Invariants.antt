-- `make` makes a key for each rule.
use mathlib.Core.Path.{◌≡◌}
use lib.ListN.{length}
use Rattle.rule_index.specs.Index.{AllKeyed}
use Rattle.rule_index.proofs.keys.make.Given as goal

-- the first i rules have their keys
abbrev pub invariant-loop-i : goal.invariant-loop-i
invariant-loop-i l = (length l.keys ≡ length l.initial.keys) × AllKeyed l.seed l.rules.bytes.now l.rules.starts.now l.i l.keys
