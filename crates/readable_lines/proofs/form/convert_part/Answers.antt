-- `convert_part` goes by the direction.
use Rattle.readable_lines.specs.Steps.{parts_by}
use Rattle.readable_lines.proofs.form.convert_part.Goals as goal

pub returns-in-Show : goal.returns-in-Show
unfolding parts_by
returns-in-Show c = rw c.in-Show.is c.part.ensures

pub returns-in-Pack : goal.returns-in-Pack
unfolding parts_by
returns-in-Pack c = rw c.in-Pack.is c.part-in-Pack.ensures
