-- `probe` tries both buckets of a place, unless the place is done with.
use native.Mathlib.Omega.{arith}
use Rattle.verdict_compare.specs.Place.{elements}
use Rattle.verdict_judge.specs.Best.{kept}
use Rattle.text_hash.proofs.Mixing.{place_within}
use Rattle.rule_index.proofs.Probing.{seen_before, probed_own, probed_both}
use Rattle.rule_index.proofs.lookup.Lookup.probe.Goals as goal

pub returns-then-seen-c-clause-probed : goal.returns-then-seen-c-clause-probed
returns-then-seen-c-clause-probed c =
    let s = c.args.self.now in
    let R = s.rules in
    let a = s.asker in
    seen_before R.bytes.now R.starts.now R.holders.now R.count a.set a.user.now a.mode a.origin.now (elements s.asked) s.seed s.keys.now
    c.args.seen.now c.args.c (kept c.args.best) c.requires.2 c.if-seen-c.true

pub overflow_add-about : goal.overflow_add-about
overflow_add-about c = omega (arith, place_within _ _ 512 _ c.requires.0.place (omega arith), c.requires.1)

pub scan-own-requires : goal.scan-own-requires
scan-own-requires c = (c.requires.0.index, omega arith, c.requires.2.kept)

pub returns-then-self-eq0-clause-probed : goal.returns-then-self-eq0-clause-probed
returns-then-self-eq0-clause-probed c =
    let s = c.args.self.now in
    let R = s.rules in
    let a = s.asker in
    probed_own R.bytes.now R.starts.now R.holders.now R.count a.set a.user.now a.mode a.origin.now (elements s.asked) R.safe s.seed s.keys.now
    s.place c.args.c c.requires.0.place c.requires.1 c.if-self-eq0.true (kept c.args.best) _ c.args.seen.now c.requires.2
    (omega (arith, c.requires.3, c.requires.1)) c.scan-own.ensures

pub scan-requires : goal.scan-requires
scan-requires c = (c.requires.0.index, c.requires.1, c.scan-own.ensures.after.kept)

pub returns-clause-probed : goal.returns-clause-probed
returns-clause-probed c =
    let s = c.args.self.now in
    let R = s.rules in
    let a = s.asker in
    probed_both R.bytes.now R.starts.now R.holders.now R.count a.set a.user.now a.mode a.origin.now (elements s.asked) R.safe s.seed s.keys.now
    s.place c.args.c c.requires.0.place c.requires.1 (kept c.args.best) _ _ c.args.seen.now c.requires.2
    (omega (arith, c.requires.3, c.requires.1)) c.scan-own.ensures c.scan.ensures
