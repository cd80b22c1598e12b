-- `probe_keys` tries the value of one key after another.
use mathlib.Core.Path.{◌≡◌}
use lib.ListN.{length}
use Rattle.verdict_compare.specs.Place.{keys, elements}
use Rattle.verdict_judge.specs.Best.{kept}
use Rattle.rule_index.specs.Clue.{values_of}
use Rattle.rule_index.specs.Lookup.{Goes}
use Rattle.rule_index.proofs.Finding.{Steps}
use Rattle.rule_index.proofs.lookup.Lookup.probe_keys.Given as goal

-- of the clues, those of the keys that are left are left
abbrev pub invariant-loop-k : goal.invariant-loop-k
invariant-loop-k l = Goes l.self l.seen (kept l.so_far) × Steps l.self.rules.bytes.now l.self.rules.starts.now l.self.rules.holders.now l.self.rules.count
    l.self.asker.set l.self.asker.user.now l.self.asker.mode l.self.asker.origin.now (elements l.self.asked) l.self.seed l.self.keys.now
    (values_of (keys l.fn.path_keys)) (kept l.best) (values_of (keys l.k-iterator)) (kept l.so_far) × (length l.seen ≡ length l.initial.seen)
