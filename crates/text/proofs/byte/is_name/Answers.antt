-- `is_name` equals its definition, at each of the 256 bytes.
use Rattle.std.proofs.Common.{rules}
use Rattle.text.proofs.Bytes.{name_test_lem}
use Rattle.text.proofs.byte.is_name.Goals as goal

pub returns : goal.returns
returns c = name_test_lem c.args.b (search rules)
