-- `lead` is the definition.
use Rattle.text.specs.Test.{whether◌then◌else◌}
use Rattle.cli_names.specs.Names.{lead_of}
use Rattle.cli_names.proofs.lead.Goals as goal

pub returns-then-first : goal.returns-then-first
unfolding lead_of whether◌then◌else◌
returns-then-first c = rw c.if-first.true

pub returns-else-first : goal.returns-else-first
unfolding lead_of whether◌then◌else◌
returns-else-first c = rw c.if-first.false
