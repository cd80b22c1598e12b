use native.Mathlib.Omega.{arith}
use mathlib.Core.Path.{refl, sym, ap, ◌∙◌}
use Prim.Native.Nat.{ℕ, ◌-◌}
use lib.ListN.{length-replicate}
use Rattle.refusal.specs.Refusal.{code}
use Rattle.std.specs.Prelude.{Err}
use Rattle.refusal.proofs.Numbers.{never_clear}
use Rattle.table_keep.specs.Held.{member_keys}
use Rattle.table_keep_rule.specs.Kept.{id_keys}
use Rattle.table_load.specs.Loaded.{Outcome}
use Rattle.text_set.proofs.Sets.{zeros}
use Rattle.table_load.proofs.Loading.{over, none_there, load_start, load_end, load_bad, row_room, row_fits, goes_on, held_again, load_refused, load_again}
use Rattle.table_load.proofs.load.Goals as goal

pub returns-then-text-gt-MAX_TABLE_TEXT : goal.returns-then-text-gt-MAX_TABLE_TEXT
unfolding Outcome
returns-then-text-gt-MAX_TABLE_TEXT c = rw c.at.ensures (over _ c.if-text-gt-MAX_TABLE_TEXT.true)

pub returns-then-text-eq0 : goal.returns-then-text-eq0
unfolding Outcome
returns-then-text-eq0 c = rw c.at-then-text-eq0.ensures (none_there _ c.if-text-gt-MAX_TABLE_TEXT.false c.if-text-eq0.true)

pub loop-from-init : goal.loop-from-init
loop-from-init c =
    load_start _ c.if-text-gt-MAX_TABLE_TEXT.false c.if-text-eq0.false _ _ _ _ _ _ _ _ _ (omega arith)
    (record { of_groups = omega arith; of_users = omega arith; of_owners = omega arith; of_starts = omega arith; of_holders = omega arith })
    (length-replicate {A = ℕ} member_keys 0, length-replicate {A = ℕ} id_keys 0) (zeros member_keys) (zeros id_keys)

pub returns-in_default : goal.returns-in_default
unfolding Outcome
returns-in_default c =
    rw c.at-in_default.ensures
    (load_bad c.loop-from.invariant c.loop-from-test.true _ c.read_line.ensures.value c.in_default.is)

pub overflow_add-end : goal.overflow_add-end
overflow_add-end c =
    let h = row_room c.loop-from.invariant _ c.read_line.ensures.value _ c.in-Some.is _
    c.read_line.ensures.out_after in omega (arith, h.2)

pub take_row-requires-clause-used_lt_end : goal.take_row-requires-clause-used_lt_end
take_row-requires-clause-used_lt_end c =
    row_fits c.loop-from.invariant _ c.read_line.ensures.value _ c.in-Some.is _ c.read_line.ensures.out_after

pub take_row-requires-clause-held : goal.take_row-requires-clause-held
take_row-requires-clause-held c = (
  c.loop-from.invariant.b,
  held_again c.loop-from.invariant _ c.read_line.ensures.value _ c.in-Some.is _ c.read_line.ensures.out_after,
)

pub returns-in-Err : goal.returns-in-Err
unfolding Outcome
returns-in-Err c =
    rw c.at-in-Err.ensures
    (load_refused c.loop-from.invariant _ c.read_line.ensures.value _ c.in-Some.is _
    c.read_line.ensures.out_after (code (Err c.in-Err.refusal)) (rw c.in-Err.is at c.take_row.ensures.row) (never_clear _))

pub bounds-table-table : goal.bounds-table-table
bounds-table-table c =
    let h = row_fits c.loop-from.invariant _ c.read_line.ensures.value _ c.in-Some.is _
    c.read_line.ensures.out_after in omega (arith, h.0, h.2)

pub loop-from-smaller : goal.loop-from-smaller
loop-from-smaller c =
    let h = goes_on c.loop-from.invariant _ c.read_line.ensures.value _ c.in-Some.is _
    c.read_line.ensures.out_after in omega (arith, h.0, h.1)

pub invariant_of-table-in-loop-from-2 : goal.invariant_of-table-in-loop-from-2
invariant_of-table-in-loop-from-2 c =
    let h = row_fits c.loop-from.invariant _ c.read_line.ensures.value _ c.in-Some.is _
    c.read_line.ensures.out_after in omega (arith, h.1)

pub loop-from-preserved : goal.loop-from-preserved
loop-from-preserved c =
    let u = c.take_row.ensures.unchanged in
    rw u.0
    (load_again c.loop-from.invariant _ c.read_line.ensures.value _ c.in-Some.is _
    c.read_line.ensures.out_after _ c.take_row.ensures.row (ap code c.in_default-take_row.is) _ (rw (u.0, u.1, u.2) at c.after-table.ensures))

pub returns : goal.returns
unfolding Outcome
returns c =
    let e = load_end c.loop-from.invariant c.loop-from-test.false in
    record { accepts = e.0; within = e.1; holds = e.2 }
