use Rattle.std.proofs.Common.{sym, ◌∙◌, arith}
use Rattle.text.proofs.Scans.{same_pass, same_differ, same_end, same_lengths}
use Rattle.text.proofs.string.is_same.Goals as goal

pub returns-then-a-b : goal.returns-then-a-b
returns-then-a-b c = sym (same_lengths _ _ c.if-a-b.true)

pub returns-then-a-i : goal.returns-then-a-i
returns-then-a-i c =
    sym (c.loop-i.invariant.1 ∙ same_differ c.args.a.now c.args.b.now c.loop-i.i (omega arith) (omega arith) c.if-a-i.true)

pub loop-i-preserved : goal.loop-i-preserved
loop-i-preserved c = (
  c.loop-i.invariant.0,
  c.loop-i.invariant.1 ∙ same_pass c.args.a.now c.args.b.now c.loop-i.i (omega arith) (omega arith) c.if-a-i.false,
)

pub returns : goal.returns
returns c = sym (c.loop-i.invariant.1 ∙ same_end c.args.a.now c.args.b.now c.loop-i.i (omega arith) (omega arith))
