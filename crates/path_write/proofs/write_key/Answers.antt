-- `write_key` stores the parts of a key's text in order.
use native.Mathlib.Omega.{arith}
use Rattle.text.proofs.Filling.{fill_byte, wrote}
use Rattle.path_write.proofs.Writing.{key_start, key_room, key_equals, value_fits, key_close, key_end_lem}
use Rattle.path_write.proofs.write_key.Goals as goal

pub bounds-out-at : goal.bounds-out-at
bounds-out-at c =
    fill_byte _ _ _ _ _ _ _ (key_start c.args.out.now c.args.at c.args.name.now c.args.value.now c.requires)

pub copy-requires : goal.copy-requires
copy-requires c =
    key_room c.args.out.now c.args.at c.args.name.now c.args.value.now c.requires

pub bounds-out-equals : goal.bounds-out-equals
bounds-out-equals c =
    fill_byte _ _ _ _ _ _ _ (key_equals c.args.out.now c.args.at c.args.name.now
    c.args.value.now c.requires _ c.copy.ensures)

pub overflow_add-equals-3 : goal.overflow_add-equals-3
overflow_add-equals-3 c =
    let h = key_equals c.args.out.now c.args.at c.args.name.now
    c.args.value.now c.requires _ c.copy.ensures in omega (arith, fill_byte _ _ _ _ _ _ _ h, h.long)

pub write_value-close-requires : goal.write_value-close-requires
write_value-close-requires c =
    value_fits c.args.out.now c.args.at c.args.name.now c.args.value.now
    c.requires _ c.copy.ensures

pub bounds-out-close : goal.bounds-out-close
bounds-out-close c =
    fill_byte _ _ _ _ _ _ _ (key_close c.args.out.now c.args.at c.args.name.now
    c.args.value.now c.requires _ c.copy.ensures _ _ c.write_value-close.ensures)

pub overflow_add-result : goal.overflow_add-result
overflow_add-result c =
    let h = key_close c.args.out.now c.args.at c.args.name.now
    c.args.value.now c.requires _ c.copy.ensures _ _ c.write_value-close.ensures in omega (arith, h.room, h.fits)

pub shape_of-out : goal.shape_of-out
shape_of-out c =
    (key_end_lem c.args.out.now c.args.at c.args.name.now c.args.value.now
    c.requires _ c.copy.ensures _ _ c.write_value-close.ensures).long

pub returns : goal.returns
returns c =
    wrote _ _ _ _ _ (key_end_lem c.args.out.now c.args.at c.args.name.now
    c.args.value.now c.requires _ c.copy.ensures _ _ c.write_value-close.ensures)
