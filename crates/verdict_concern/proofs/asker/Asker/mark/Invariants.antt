use mathlib.Core.Path.{◌≡◌}
use lib.ListN.{length}
use Rattle.verdict_concern.specs.Concern.{Applying}
use Rattle.verdict_concern.proofs.asker.Asker.mark.Given as goal

-- of the first i rules, those that apply are marked
abbrev pub invariant-loop-i : goal.invariant-loop-i
invariant-loop-i l = (length l.on ≡ length l.initial.on)
    × Applying l.rules.bytes.now l.rules.starts.now l.rules.holders.now l.i l.self.set l.self.user.now l.self.mode l.self.origin.now l.on
