-- `factory` is the definition.
use Rattle.cli_record.specs.Factory.{factory_record}
use Rattle.cli_record.proofs.factory.Goals as goal

pub returns : goal.returns
unfolding factory_record
returns c = rw c.number.ensures
