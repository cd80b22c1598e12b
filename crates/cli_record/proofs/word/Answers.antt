-- `word` is the definition.
use mathlib.Core.Path.{refl}
use Rattle.cli_record.specs.Bytes.{of_four_bytes}
use Rattle.cli_record.proofs.word.Goals as goal

pub returns : goal.returns
unfolding of_four_bytes
returns c = refl
