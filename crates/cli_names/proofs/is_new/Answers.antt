-- `is_new` equals its definition.
use native.Mathlib.Omega.{arith}
use Rattle.table_rows.proofs.Strings.{room}
use Rattle.table_place.proofs.Cursor.{str_grows}
use Rattle.cli_names.proofs.Gathering.{other_name, first_name_lem}
use Rattle.cli_names.proofs.is_new.Goals as goal

pub overflow_add-start : goal.overflow_add-start
overflow_add-start c = omega (arith, room _ _ c.requires.0)

pub slice_bounds-name-count : goal.slice_bounds-name-count
slice_bounds-name-count c =
    omega (arith, c.str_end-end.ensures, str_grows c.args.f.now c.args.at)

pub slice_bounds-name-start : goal.slice_bounds-name-start
slice_bounds-name-start c =
    omega (arith, c.str_end-end.ensures, str_grows c.args.f.now c.args.at)

pub returns-then-not-is_alike : goal.returns-then-not-is_alike
returns-then-not-is_alike c =
    other_name _ _ _ c.str_end-end.ensures _ _ _ _ c.is_alike.ensures (c.if-not-is_alike.true)

pub returns : goal.returns
returns c =
    first_name_lem _ _ _ c.str_end-end.ensures _ _ _ _ c.is_alike.ensures (c.if-not-is_alike.false) _ c.find.ensures
