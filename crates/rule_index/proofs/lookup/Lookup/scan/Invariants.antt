-- `scan` tries the keys of a bucket from its first on; those after a key that is too large belong to rules that are no better.
use Rattle.verdict_compare.specs.Place.{elements}
use Rattle.verdict_judge.specs.Rules.{Safe}
use Rattle.verdict_judge.specs.Best.{kept}
use Rattle.rule_index.specs.Index.{Index}
use Rattle.rule_index.proofs.Scanning.{Going}
use Rattle.rule_index.proofs.lookup.Lookup.scan.Given as goal

-- the keys before number j are tried
abbrev pub invariant-loop-j : goal.invariant-loop-j
invariant-loop-j l = (s : Safe l.self.rules.bytes.now l.self.rules.starts.now l.self.rules.holders.now l.self.rules.count)
    (i : Index l.self.seed l.self.rules.bytes.now l.self.rules.starts.now l.self.rules.count l.self.keys.now l.self.first.now)
    → Going l.self.rules.bytes.now l.self.rules.starts.now l.self.rules.holders.now l.self.rules.count
    l.self.asker.set l.self.asker.user.now l.self.asker.mode l.self.asker.origin.now (elements l.self.asked) s l.self.seed l.self.keys.now l.self.first.now i
    l.bucket (kept l.best) (kept l.so_far) l.j
