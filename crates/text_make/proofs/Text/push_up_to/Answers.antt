-- `push_up_to` adds the string or nothing.
use Rattle.text_make.proofs.Pieces.{nothing_added}
use borrow.Author.Tests.{lt-ltb, le-ltb}
use Rattle.text.specs.Test.{whether◌then◌else◌}
use Rattle.text_make.specs.Text.{up_to}
use Rattle.text_make.proofs.Text.push_up_to.Goals as goal

pub returns-then-s-most-clause-added : goal.returns-then-s-most-clause-added
unfolding up_to whether◌then◌else◌
returns-then-s-most-clause-added g c = rw (le-ltb _ _ c.if-s-most.true) c.push_str.ensures

pub returns-else-s-most-clause-added : goal.returns-else-s-most-clause-added
unfolding up_to whether◌then◌else◌
returns-else-s-most-clause-added g c = rw (lt-ltb _ _ c.if-s-most.false) (nothing_added c.args.self.now)
