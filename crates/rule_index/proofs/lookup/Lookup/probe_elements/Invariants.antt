-- `probe_elements` tries the keys of one element after another.
use mathlib.Core.Path.{◌≡◌}
use lib.ListN.{length}
use Rattle.verdict_compare.specs.Place.{elements}
use Rattle.verdict_judge.specs.Best.{kept}
use Rattle.rule_index.specs.Clue.{values}
use Rattle.rule_index.specs.Lookup.{Goes}
use Rattle.rule_index.proofs.Finding.{Steps}
use Rattle.rule_index.proofs.lookup.Lookup.probe_elements.Given as goal

-- of the clues, those of the elements that are left are left
abbrev pub invariant-loop-e : goal.invariant-loop-e
invariant-loop-e l = Goes l.self l.seen (kept l.so_far) × Steps l.self.rules.bytes.now l.self.rules.starts.now l.self.rules.holders.now l.self.rules.count
    l.self.asker.set l.self.asker.user.now l.self.asker.mode l.self.asker.origin.now (elements l.self.asked) l.self.seed l.self.keys.now
    (values (elements l.fn.path)) (kept l.best) (values (elements l.e-iterator)) (kept l.so_far) × (length l.seen ≡ length l.initial.seen)
