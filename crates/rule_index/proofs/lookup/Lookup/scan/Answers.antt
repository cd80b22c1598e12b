use native.Mathlib.Omega.{arith}
use mathlib.Core.Path.{refl, sym}
use Rattle.verdict_compare.specs.Place.{elements}
use Rattle.verdict_judge.specs.Best.{kept}
use Rattle.rule_index.proofs.Scanning.{none_there, going_starts, going_on, going_last, going_ends, weight_small, tried_below, tried_weight}
use Rattle.rule_index.proofs.lookup.Lookup.scan.Goals as goal

pub bounds-self-bucket : goal.bounds-self-bucket
bounds-self-bucket c = omega (arith, c.requires.0.places, c.requires.1)

pub returns-then-from-eq0 : goal.returns-then-from-eq0
returns-then-from-eq0 c =
    let s = c.args.self.now in
    none_there _ _ _ _ _ _ _ _ (elements s.asked) s.rules.safe _ _ _ c.requires.0 _ c.if-from-eq0.true _ c.requires.2

pub loop-j-init : goal.loop-j-init
loop-j-init c =
    λ s i. going_starts _ _ _ _ _ _ _ _ (elements c.args.self.now.asked) s _ _ _ i _ _ refl _ c.requires.2

pub bounds-self-j : goal.bounds-self-j
bounds-self-j c = omega (arith, c.requires.0.room)

pub weight_of-requires : goal.weight_of-requires
weight_of-requires c =
    let s = c.args.self.now in
    weight_small _ _ _ _ _ _ _ _ (elements s.asked) s.rules.safe _ _ _ c.requires.0 _ (c.loop-j.invariant s.rules.safe c.requires.0).after.kept

pub last_key-requires : goal.last_key-requires
last_key-requires c =
    let s = c.args.self.now in (
      c.requires.1,
      rw c.weight_of.ensures (weight_small _ _ _ _ _ _ _ _ (elements s.asked) s.rules.safe _ _ _ c.requires.0 _
          (c.loop-j.invariant s.rules.safe c.requires.0).after.kept),
    )

pub returns-then-last_key-key : goal.returns-then-last_key-key
returns-then-last_key-key c =
    let s = c.args.self.now in
    going_last _ _ _ _ _ _ _ _ (elements s.asked) s.rules.safe _ _ _ c.requires.0 _ _ c.loop-j.so_far _
    (c.loop-j.invariant s.rules.safe c.requires.0)
    c.loop-j-test.true _ (rw c.weight_of.ensures at c.last_key.ensures) c.if-last_key-key.true

pub try_rule-so_far-requires : goal.try_rule-so_far-requires
try_rule-so_far-requires c =
    let s = c.args.self.now in (
      tried_below c.requires.0 _ c.loop-j-test.true,
      tried_weight c.requires.0 _ c.loop-j-test.true,
      (c.loop-j.invariant s.rules.safe c.requires.0).after.kept,
    )

pub loop-j-preserved : goal.loop-j-preserved
loop-j-preserved c =
    λ s i. going_on _ _ _ _ _ _ _ _ (elements c.args.self.now.asked) s _ _ _ i _ _ (kept c.loop-j.so_far) _ (c.loop-j.invariant s i) _
    c.loop-j-test.true c.try_rule-so_far.ensures

pub returns : goal.returns
returns c =
    let s = c.args.self.now in
    going_ends _ _ _ _ _ _ _ _ (elements s.asked) s.rules.safe _ _ _ c.requires.0 _ _ _ _
    (c.loop-j.invariant s.rules.safe c.requires.0) (omega arith)
