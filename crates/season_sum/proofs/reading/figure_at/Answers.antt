use native.Mathlib.Omega.{arith}
use lib.ListN.{get_or}
use mathlib.Core.Path.{sym, ◌∙◌}
use Rattle.season_sum.proofs.Numbers.{digit, figure_none, figure_read}
use Rattle.season_sum.proofs.reading.figure_at.Goals as goal

pub returns-then-not-is_ascii_digit : goal.returns-then-not-is_ascii_digit
returns-then-not-is_ascii_digit c =
    figure_none _ _ c.requires (sym c.is_ascii_digit.ensures.value ∙ c.if-not-is_ascii_digit.true)

pub overflow_sub-b : goal.overflow_sub-b
overflow_sub-b c =
    omega (arith, (digit (get_or c.args.text.now c.args.at 0) (sym c.is_ascii_digit.ensures.value ∙ c.if-not-is_ascii_digit.false)).low)

pub overflow_cast-b : goal.overflow_cast-b
overflow_cast-b c =
    omega (arith, (digit (get_or c.args.text.now c.args.at 0) (sym c.is_ascii_digit.ensures.value ∙ c.if-not-is_ascii_digit.false)).high)

pub returns : goal.returns
returns c =
    figure_read _ _ c.requires (sym c.is_ascii_digit.ensures.value ∙ c.if-not-is_ascii_digit.false) c.number.ensures
