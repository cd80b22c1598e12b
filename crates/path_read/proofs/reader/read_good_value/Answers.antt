-- `read_good_value` stores the value, where it is good.
use native.Mathlib.Omega.{arith}
use Rattle.std.proofs.Common.{◌∙◌, sym}
use Rattle.refusal.proofs.Numbers.{code_err, code_none}
use Rattle.path.specs.Walk.{value_refusal, good}
use Rattle.path_read.specs.Steps.{nothing}
use Rattle.path_read.proofs.Storing.{stored_not}
use Rattle.path_read.proofs.Judging.{pass_none, value_starts, value_ends, value_bad, value_stores}
use Rattle.path_read.proofs.reader.read_good_value.Goals as goal

pub returns-in_err-next : goal.returns-in_err-next
returns-in_err-next c =
    rw c.from_residual.ensures (nothing (pass_none (good value_refusal) (stored_not c.read_value.ensures c.in_err-next.was)))

pub overflow_add-start : goal.overflow_add-start
overflow_add-start c =
    omega (
      arith,
      value_starts c.requires c.read_value.ensures c.in_ok-next.was,
      value_ends c.requires c.read_value.ensures c.in_ok-next.was,
    )

pub slice_bounds-value-count : goal.slice_bounds-value-count
slice_bounds-value-count c =
    value_starts c.requires c.read_value.ensures c.in_ok-next.was

pub slice_bounds-value-start : goal.slice_bounds-value-start
slice_bounds-value-start c =
    value_starts c.requires c.read_value.ensures c.in_ok-next.was

pub slice_bounds-value-end : goal.slice_bounds-value-end
slice_bounds-value-end c =
    value_ends c.requires c.read_value.ensures c.in_ok-next.was

pub returns-then-is_err : goal.returns-then-is_err
returns-then-is_err c =
    value_bad c.requires c.read_value.ensures c.in_ok-next.was _ c.value.ensures (code_err _ (sym c.is_err.ensures.value ∙ c.if-is_err.true))

pub returns : goal.returns
returns c =
    value_stores c.requires c.read_value.ensures c.in_ok-next.was _ c.value.ensures (code_none _ (sym c.is_err.ensures.value ∙ c.if-is_err.false))
