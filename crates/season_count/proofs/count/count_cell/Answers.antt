-- `count_cell` raises the cell of its definition.
use native.Mathlib.Omega.{arith}
use Prim.Native.Nat.{◌-◌}
use Rattle.verdict_request.specs.Answers.{on_path}
use Rattle.season_count.proofs.Raising.{column_small}
use Rattle.season_count.proofs.count.count_cell.Goals as goal

pub offset_bounds-grid-place : goal.offset_bounds-grid-place
offset_bounds-grid-place c = omega (arith, c.column-place.ensures, column_small (on_path c.args.a))

pub bounds-grid-place : goal.bounds-grid-place
bounds-grid-place c = omega (arith, c.column-place.ensures, column_small (on_path c.args.a))

pub overflow_add-grid : goal.overflow_add-grid
overflow_add-grid c = omega (arith, c.requires.2 (c.args.mode - 1) c.column-place.result)

pub bounds-grid-place-2 : goal.bounds-grid-place-2
bounds-grid-place-2 c = omega (arith, c.column-place.ensures, column_small (on_path c.args.a))

pub returns : goal.returns
returns c = rw c.column-place.ensures
