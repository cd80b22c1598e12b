-- `is_of` equals its definition.
use native.Mathlib.Omega.{arith}
use borrow.Author.Tests.{lt-ltb, le-ltb}
use Rattle.text.specs.Test.{◌and◌}
use Rattle.season_count.proofs.run.Run.is_of.Goals as goal

pub returns-then-self-ne0 : goal.returns-then-self-ne0
unfolding ◌and◌
returns-then-self-ne0 c = rw (lt-ltb 0 c.args.self.now.len (omega (arith, c.if-self-ne0.true))) c.starts_with.ensures

pub returns-else-self-ne0 : goal.returns-else-self-ne0
unfolding ◌and◌
returns-else-self-ne0 c = rw (le-ltb 0 c.args.self.now.len (omega (arith, c.if-self-ne0.false)), c.if-self-ne0.false)
