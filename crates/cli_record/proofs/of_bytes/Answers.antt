-- `of_bytes` is the definition.
use Rattle.cli_record.specs.Bytes.{record_in}
use Rattle.cli_record.proofs.of_bytes.Goals as goal

pub returns : goal.returns
unfolding record_in
returns c =
    rw (
      c.word_at.ensures,
      c.word_at-2.ensures,
      c.word_at-3.ensures,
      c.word_at-4.ensures,
      c.word_at-5.ensures,
    )
