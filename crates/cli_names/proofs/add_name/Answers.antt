-- `add_name` adds a name after its words.
use native.Mathlib.Omega.{arith}
use mathlib.Core.List.{append_assoc}
use mathlib.Core.Path.{ap}
use lib.ListN.{length, length-append}
use Rattle.table_rows.proofs.Strings.{room}
use Rattle.table_place.specs.Place.{str_in}
use Rattle.table_place.proofs.Cursor.{str_grows}
use Rattle.cli_names.specs.Names.{led, lead_of}
use Rattle.cli_names.proofs.Gathering.{name_part}
use Rattle.cli_names.proofs.add_name.Goals as goal

pub push_str-requires : goal.push_str-requires
unfolding led
push_str-requires c =
    omega (arith, c.requires.1, ap length c.lead.ensures, length-append (lead_of c.args.first) (str_in c.args.f.now c.args.p))

pub overflow_add-start : goal.overflow_add-start
overflow_add-start c = omega (arith, room _ _ c.requires.0)

pub slice_bounds-push_str-count : goal.slice_bounds-push_str-count
slice_bounds-push_str-count c = omega (arith, c.str_end-end.ensures, str_grows c.args.f.now c.args.p)

pub slice_bounds-push_str-start : goal.slice_bounds-push_str-start
slice_bounds-push_str-start c = omega (arith, c.str_end-end.ensures, str_grows c.args.f.now c.args.p)

pub push_str-requires-2 : goal.push_str-requires-2
unfolding led
push_str-requires-2 c =
    rw (name_part _ _ _ c.str_end-end.ensures)
    (omega (
      arith,
      c.requires.1,
      ap length c.push_str.ensures,
      length-append c.args.text.now c.lead.result.now,
      ap length c.lead.ensures,
      length-append (lead_of c.args.first) (str_in c.args.f.now c.args.p),
    ))

pub returns : goal.returns
unfolding led
returns c = simp (append_assoc, c.push_str-2.ensures, name_part _ _ _ c.str_end-end.ensures, c.push_str.ensures, c.lead.ensures)
