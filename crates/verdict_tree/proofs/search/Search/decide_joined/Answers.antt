use native.Mathlib.Omega.{arith}
use mathlib.Core.Path.{sym, ap, ◌∙◌}
use Rattle.verdict_compare.specs.Place.{elements}
use Rattle.verdict_tree.proofs.Walk.{below_less, at_below, past_start, past_next, found}
use Rattle.verdict_tree.proofs.Deciding.{own_join}
use Rattle.table.specs.Table.{Rule}
use Rattle.verdict_tree.proofs.search.Search.decide_joined.Goals as goal

pub loop-x-init : goal.loop-x-init
loop-x-init c =
    let s = c.args.self.now in let k = c.requires.0 in (
      at_below s.rules s.weights.now k.packed _ _ k.start,
      past_start s.rules s.weights.now k.packed (elements s.asked) c.args.i.0 _ k.start,
    )

pub covers_joined-requires-clause-inside : goal.covers_joined-requires-clause-inside
covers_joined-requires-clause-inside c = let e = c.loop-x.invariant.0 (omega arith) in (e.0, c.requires.1)

pub covers_joined-requires-clause-fit : goal.covers_joined-requires-clause-fit
covers_joined-requires-clause-fit c = let e = c.loop-x.invariant.0 (omega arith) in (omega arith, c.requires.2)

pub covers_joined-requires-clause-path : goal.covers_joined-requires-clause-path
covers_joined-requires-clause-path c = c.path-own.ensures.path ∙ ap (λ (r : Rule). r.path) c.rule.ensures

pub returns-then-covers_joined : goal.returns-then-covers_joined
returns-then-covers_joined c =
    let s = c.args.self.now in
    let e = c.loop-x.invariant.0 (omega arith) in
    found s.rules s.weights.now c.requires.0.packed (elements s.asked) c.args.i.0 _ c.loop-x.x e.0 (omega arith)
    (sym c.covers_joined.ensures ∙ c.if-covers_joined.true) (omega arith) c.loop-x.invariant.1

pub bounds-self-j : goal.bounds-self-j
bounds-self-j c = let e = c.loop-x.invariant.0 (omega arith) in let k = c.requires.0.each_next in omega arith

pub loop-x-smaller : goal.loop-x-smaller
loop-x-smaller c =
    let s = c.args.self.now in
    let e = c.loop-x.invariant.0 (omega arith) in
    let b = below_less s.weights.now _ _ _ (c.requires.0.nexts _ e.0 (omega arith)) (omega arith) in omega arith

pub loop-x-preserved : goal.loop-x-preserved
loop-x-preserved c =
    let s = c.args.self.now in
    let e = c.loop-x.invariant.0 (omega arith) in
    let b = c.requires.0.nexts _ e.0 (omega arith) in
    let packed = c.requires.0.packed in (
      at_below s.rules s.weights.now packed _ _ b,
      past_next s.rules s.weights.now packed (elements s.asked) c.args.i.0
          c.loop-x.x _ c.loop-x.invariant.0 (omega arith) c.loop-x.invariant.1
          (sym c.covers_joined.ensures ∙ c.if-covers_joined.false) b,
    )

pub returns : goal.returns
returns c =
    let s = c.args.self.now in
    found s.rules s.weights.now c.requires.0.packed (elements s.asked) c.args.i.0 _ c.loop-x.x c.requires.1 c.requires.2
    (own_join _ _) (omega arith) c.loop-x.invariant.1
