-- `to_bytes` is the definition.
use Rattle.cli_record.specs.Bytes.{record_bytes, four_bytes}
use Rattle.cli_record.proofs.to_bytes.Goals as goal

pub returns : goal.returns
unfolding record_bytes four_bytes
returns c =
    rw (
      c.byte_of.ensures,
      c.byte_of-2.ensures,
      c.byte_of-3.ensures,
      c.byte_of-4.ensures,
      c.byte_of-5.ensures,
      c.byte_of-6.ensures,
      c.byte_of-7.ensures,
      c.byte_of-8.ensures,
      c.byte_of-9.ensures,
      c.byte_of-10.ensures,
      c.byte_of-11.ensures,
      c.byte_of-12.ensures,
      c.byte_of-13.ensures,
      c.byte_of-14.ensures,
      c.byte_of-15.ensures,
      c.byte_of-16.ensures,
      c.byte_of-17.ensures,
      c.byte_of-18.ensures,
      c.byte_of-19.ensures,
      c.byte_of-20.ensures,
    )
