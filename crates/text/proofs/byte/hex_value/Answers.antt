-- `hex_value` equals its definition: subtraction modulo 256 tells digits and letters.
use Rattle.std.proofs.Common.{arith}
use Rattle.text.proofs.Bytes.{digit_value, letter_value, no_value}
use Rattle.text.proofs.byte.hex_value.Goals as goal

pub returns-then-digit-lt10 : goal.returns-then-digit-lt10
returns-then-digit-lt10 c = digit_value _ _ (omega arith) (omega arith) c.wrapping_sub_u8-digit.ensures.value c.if-digit-lt10.true

pub returns-then-letter-lt6 : goal.returns-then-letter-lt6
returns-then-letter-lt6 c =
    letter_value _ _ (omega arith) (omega arith) c.wrapping_sub_u8-digit.ensures.value _ (omega arith)
    c.wrapping_sub_u8-letter.ensures.value c.if-digit-lt10.false c.if-letter-lt6.true

pub returns : goal.returns
returns c =
    no_value _ _ (omega arith) (omega arith) c.wrapping_sub_u8-digit.ensures.value _ (omega arith)
    c.wrapping_sub_u8-letter.ensures.value c.if-digit-lt10.false c.if-letter-lt6.false
