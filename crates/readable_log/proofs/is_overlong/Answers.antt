-- `is_overlong` is the definition.
use Rattle.readable_log.specs.Run.{overlong}
use Rattle.readable_log.proofs.is_overlong.Goals as goal

pub returns-in-Show : goal.returns-in-Show
unfolding overlong
returns-in-Show c = rw c.in-Show.is

pub returns-in-Pack : goal.returns-in-Pack
unfolding overlong
returns-in-Pack c = rw c.in-Pack.is
