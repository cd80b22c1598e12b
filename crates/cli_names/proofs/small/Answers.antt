-- `small` equals its definition.
use native.Mathlib.Omega.{arith}
use borrow.Author.Tests.{leb-true}
use lib.Dec.{leb}
use Rattle.text.proofs.Tests.{and_left, and_right}
use Rattle.cli_names.proofs.small.Goals as goal

pub overflow_sub-result : goal.overflow_sub-result
overflow_sub-result c =
    omega (arith, leb-true 65 c.args.b (and_left (leb 65 c.args.b) (leb c.args.b 90) c.if-b.true))

pub overflow_add-result : goal.overflow_add-result
overflow_add-result c =
    omega (arith, leb-true c.args.b 90 (and_right (leb 65 c.args.b) (leb c.args.b 90) c.if-b.true))

pub returns-then-b : goal.returns-then-b
returns-then-b c =
    rw c.if-b.true (omega (arith, leb-true 65 c.args.b (and_left (leb 65 c.args.b) (leb c.args.b 90) c.if-b.true)))

pub returns : goal.returns
returns c = rw c.if-b.false
