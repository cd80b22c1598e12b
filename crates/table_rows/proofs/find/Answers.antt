use native.Mathlib.Omega.{arith}
use mathlib.Core.Path.{sym, ◌∙◌}
use Rattle.table_rows.proofs.Strings.{find_start, find_pass, find_hit, find_end}
use Rattle.table_rows.proofs.find.Goals as goal

pub loop-i-init : goal.loop-i-init
loop-i-init c = find_start _ _ _ _

pub overflow_cast-at : goal.overflow_cast-at
overflow_cast-at c = omega (arith, c.type_inv.starts c.loop-i.i)

pub is_at-requires : goal.is_at-requires
is_at-requires c = c.requires.laid c.loop-i.i (omega arith)

pub returns-then-is_at : goal.returns-then-is_at
returns-then-is_at c =
    find_hit _ _ _ _ _ _ (omega arith) (sym c.is_at.ensures ∙ c.if-is_at.true) c.loop-i.invariant

pub loop-i-preserved : goal.loop-i-preserved
loop-i-preserved c =
    find_pass _ _ _ _ _ _ (omega arith) (sym c.is_at.ensures ∙ c.if-is_at.false) c.loop-i.invariant

pub returns : goal.returns
returns c = find_end _ _ _ _ _ _ (omega arith) (omega arith) c.loop-i.invariant
