use native.Mathlib.Omega.{arith}
use mathlib.Core.Path.{◌∙◌}
use Prim.Native.Nat.{◌-◌, ◌/◌, ◌<◌}
use lib.ListN.{length, get_or, length-set}
use Rattle.rule_index.specs.Index.{span}
use Rattle.rule_index.proofs.Keying.{firsts_more}
use Rattle.rule_index.proofs.keys.mark_first.Goals as goal

pub loop-left-init : goal.loop-left-init
loop-left-init c = (omega arith, c.requires.2, λ j l m. absurd (omega arith))

pub offset_bounds-first-b : goal.offset_bounds-first-b
offset_bounds-first-b c =
    let b = c.requires.3 (c.loop-left.left - 1) (omega arith) in omega arith

pub bounds-first-b : goal.bounds-first-b
bounds-first-b c =
    let b = c.requires.3 (c.loop-left.left - 1) (omega arith) in omega arith

pub loop-left-preserved : goal.loop-left-preserved
loop-left-preserved c =
    let b = c.requires.3 (c.loop-left.left - 1) (omega arith) in
    let r : get_or (c.args.keys.now) (c.loop-left.left - 1) 0 / span < length
    (c.loop-left.first) = omega arith in (
      omega arith,
      length-set (c.loop-left.first) _ _ ∙ c.loop-left.invariant.1,
      firsts_more (c.args.keys.now) (c.args.n) (c.loop-left.first)
          (c.loop-left.left) c.loop-left-test.true r (c.loop-left.invariant.2),
    )

pub returns : goal.returns
returns c = (c.loop-left.invariant.1, λ j l. c.loop-left.invariant.2 j (omega arith) l)
