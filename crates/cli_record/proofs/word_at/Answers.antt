-- `word_at` is the definition.
use Rattle.cli_record.specs.Bytes.{number_at}
use Rattle.cli_record.proofs.word_at.Goals as goal

pub returns : goal.returns
unfolding number_at
returns c = c.word.ensures
