-- `write_element` stores the name, and then the keys.
use native.Mathlib.Omega.{arith}
use mathlib.Core.Path.{◌∙◌}
use Rattle.text.proofs.Frames.{string_ends}
use Rattle.text.proofs.Filling.{fill_byte, wrote}
use Rattle.path_write.proofs.Writing.{element_is, element_named, element_counted, elem_read, elem_ends, elem_start, elem_room, keys_room, elem_wrote}
use Rattle.path_write.proofs.write_element.Goals as goal

pub returns-in_default : goal.returns-in_default
returns-in_default c =
    element_named _ _ _ c.string_end.ensures c.requires.reads c.in_default.is

pub returns-then-f-middle : goal.returns-then-f-middle
returns-then-f-middle c =
    element_counted _ _ _ c.string_end.ensures c.requires.reads _ c.in-Some.is c.if-f-middle.true

pub overflow_cast-count : goal.overflow_cast-count
overflow_cast-count c =
    omega (arith, c.type_inv.f c.in-Some.middle)

pub overflow_add-start : goal.overflow_add-start
overflow_add-start c =
    let t = string_ends _ _ _ c.string_end.ensures _ c.in-Some.is in omega (arith, t.1, t.2)

pub slice_bounds-name-count : goal.slice_bounds-name-count
slice_bounds-name-count c =
    (string_ends _ _ _ c.string_end.ensures _ c.in-Some.is).1

pub slice_bounds-name-start : goal.slice_bounds-name-start
slice_bounds-name-start c =
    (string_ends _ _ _ c.string_end.ensures _ c.in-Some.is).1

pub slice_bounds-name-end : goal.slice_bounds-name-end
slice_bounds-name-end c =
    (string_ends _ _ _ c.string_end.ensures _ c.in-Some.is).2

pub bounds-out-to : goal.bounds-out-to
bounds-out-to c =
    let is = element_is _ _ _ c.string_end.ensures _ c.in-Some.is c.if-f-middle.false in
    fill_byte _ _ _ _ _ _ _ (elem_start is c.requires)

pub copy-requires : goal.copy-requires
copy-requires c =
    let is = element_is _ _ _ c.string_end.ensures _ c.in-Some.is c.if-f-middle.false in
    elem_room is c.requires

pub write_keys-requires : goal.write_keys-requires
write_keys-requires c =
    let is = element_is _ _ _ c.string_end.ensures _ c.in-Some.is c.if-f-middle.false in
    record { reads = elem_read is c.requires; room = keys_room is c.requires _ c.copy.ensures }

pub shape_of-out : goal.shape_of-out
shape_of-out c =
    let is = element_is _ _ _ c.string_end.ensures _ c.in-Some.is c.if-f-middle.false in
    (elem_wrote is c.requires _ c.copy.ensures _ _ c.write_keys.ensures.wrote).long

pub returns : goal.returns
returns c =
    let is = element_is _ _ _ c.string_end.ensures _ c.in-Some.is c.if-f-middle.false in
    record {
      next = c.write_keys.ensures.next ∙ elem_ends is c.requires;
      wrote = wrote _ _ _ _ _ (elem_wrote is c.requires _ c.copy.ensures _ _ c.write_keys.ensures.wrote);
    }
