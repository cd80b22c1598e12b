-- `read_text` answers and leaves what the definitions say: so does each of its three ways.
use native.Mathlib.Omega.{arith}
use mathlib.Core.Path.{sym, ◌∙◌}
use Rattle.path_read.proofs.Answers.{root_bytes}
use Rattle.path_read.proofs.reader.read_text.Goals as goal

pub returns-then-is_byte : goal.returns-then-is_byte
returns-then-is_byte c =
    let e = root_bytes _ _ c.is_byte.ensures c.if-is_byte.true in rw e c.read_root.ensures

pub read_apart-requires : goal.read_apart-requires
read_apart-requires c =
    record { small = omega arith; room = λ n f h. omega (arith, c.if-text-le-SHORT_TEXT.true); no_root = sym c.is_byte.ensures ∙ c.if-is_byte.false }

pub read_apart-requires-2 : goal.read_apart-requires-2
read_apart-requires-2 c =
    record { small = omega arith; room = λ n f h. omega arith; no_root = sym c.is_byte.ensures ∙ c.if-is_byte.false }
