-- `read_line` equals its definition: the digits are decoded, and an LF must follow them.
use native.Mathlib.Omega.{arith}
use Rattle.table_line.proofs.FirstLine.{room, at_end_lem, at_other, at_empty, at_LF}
use Rattle.table_line.proofs.read_line.Goals.{then-text-end-via-then-text-end, then-text-end-via-else-text-end+then-text-end-ne10, then-text-end-via-else-text-end+else-text-end-ne10+then-len-eq0}
use Rattle.table_line.proofs.read_line.Goals as goal

pub overflow_mul-end : goal.overflow_mul-end
overflow_mul-end c =
    omega (arith, room c.args.text.now c.args.from _ c.decode-len.ensures.value c.requires.0)

pub overflow_add-end : goal.overflow_add-end
overflow_add-end c =
    omega (arith, room c.args.text.now c.args.from _ c.decode-len.ensures.value c.requires.0)

pub returns-clause-value : goal.returns-clause-value
returns-clause-value c =
    at_LF _ _ _ c.decode-len.ensures.value c.if-text-end.false c.if-text-end-ne10.false c.if-len-eq0.false

pub returns-then-text-end-clause-value : goal.returns-then-text-end-clause-value
returns-then-text-end-clause-value c =
    elim c.then-text-end.branch [
      | then-text-end-via-then-text-end w ↦ at_end_lem _ _ _ c.decode-len.ensures.value w.if-text-end.true
      | then-text-end-via-else-text-end+then-text-end-ne10 w ↦ at_other _ _ _ c.decode-len.ensures.value w.if-text-end-ne10.true
      | then-text-end-via-else-text-end+else-text-end-ne10+then-len-eq0 w ↦
          at_empty _ _ _ c.decode-len.ensures.value w.if-text-end.false w.if-text-end-ne10.false w.if-len-eq0.true
    ]
