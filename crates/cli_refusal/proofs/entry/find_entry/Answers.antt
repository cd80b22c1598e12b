use native.Mathlib.Omega.{arith}
use mathlib.Core.Path.{sym, ◌∙◌}
use mathlib.Core.Bool.{true}
use Prim.Native.Nat.{◌-◌}
use Rattle.cli_refusal.proofs.Looking.{entry_found, entry_turn, entry_none}
use Rattle.cli_refusal.proofs.entry.find_entry.Goals as goal

pub overflow_add-result : goal.overflow_add-result
overflow_add-result c =
    let e = entry_found _ _ _ c.loop-at.invariant.1 c.loop-at-test.true
    (sym c.starts_with.ensures ∙ c.if-starts_with.true) in omega (arith, e.within)

pub returns-then-starts_with : goal.returns-then-starts_with
returns-then-starts_with c =
    entry_found _ _ _ c.loop-at.invariant.1 c.loop-at-test.true (sym c.starts_with.ensures ∙ c.if-starts_with.true)

pub loop-at-preserved : goal.loop-at-preserved
loop-at-preserved c =
    (omega arith, entry_turn _ _ _ c.loop-at.invariant.1 _ (sym c.starts_with.ensures ∙ c.if-starts_with.false) c.next-at.ensures)

pub returns : goal.returns
returns c = entry_none _ _ _ c.loop-at.invariant.1 c.loop-at.invariant.0 c.loop-at-test.false
