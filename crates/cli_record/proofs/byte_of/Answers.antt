-- `byte_of` is the definition.
use mathlib.Core.Path.{refl}
use Rattle.cli_record.specs.Bytes.{byte_of}
use Rattle.cli_record.proofs.byte_of.Goals as goal

pub returns : goal.returns
unfolding byte_of
returns c = refl
