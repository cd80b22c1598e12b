use native.Mathlib.Omega.{arith}
use mathlib.Core.Path.{refl, sym, ◌∙◌}
use Rattle.cli_names.proofs.Letters.{alike_start, alike_lengths, alike_pass, alike_differ, alike_end}
use Rattle.std.proofs.Common.{rules}
use Rattle.cli_names.proofs.is_alike.Goals as goal

pub returns-then-n-b : goal.returns-then-n-b
returns-then-n-b c = sym (alike_lengths _ _ c.if-n-b.true)

pub loop-i-init : goal.loop-i-init
loop-i-init c = (refl, c.if-n-b.false, search rules, alike_start _ _)

pub returns-then-small : goal.returns-then-small
returns-then-small c =
    sym (c.loop-i.invariant.3 ∙ alike_differ c.args.a.now c.args.b.now c.loop-i.i
    (omega arith) (omega arith) _ _ c.small.ensures c.small-in-loop-i.ensures c.if-small.true)

pub loop-i-preserved : goal.loop-i-preserved
loop-i-preserved c = (
  c.loop-i.invariant.0,
  c.loop-i.invariant.1,
  omega arith,
  c.loop-i.invariant.3 ∙ alike_pass c.args.a.now c.args.b.now c.loop-i.i
      (omega arith) (omega arith) _ _ c.small.ensures c.small-in-loop-i.ensures c.if-small.false,
)

pub returns : goal.returns
returns c =
    sym (c.loop-i.invariant.3 ∙ alike_end c.args.a.now c.args.b.now c.loop-i.i (omega arith) (omega arith))
