-- `read_name` stores the name after its length.
use native.Mathlib.Omega.{arith}
use Prim.Native.Nat.{◌-◌}
use lib.ListN.{length-set}
use Rattle.text.proofs.Filling.{wrote_long}
use Rattle.path.specs.Walk.{name_refusal, good}
use Rattle.path_read.specs.Steps.{stores, nothing}
use Rattle.path_read.proofs.Storing.{room_byte}
use Rattle.path_read.proofs.Reading.{name_within, name_high, name_got, wrote_string, string_fits}
use Rattle.path_read.proofs.Judging.{pass_good, name_known, name_ends, name_broken, name_unsized, few_bytes}
use Rattle.path_read.proofs.reader.read_name.Goals as goal

pub returns-then-next-text : goal.returns-then-next-text
returns-then-next-text c =
    nothing (name_broken _ _ c.requires.1 c.requires.2 _ _ _ _ c.requires.0.starts
    c.name_end-next.ensures c.byte_at-c.ensures c.if-next-text.true)

pub returns-then-n : goal.returns-then-n
returns-then-n c =
    nothing (name_unsized _ _ c.requires.1 c.requires.2 _ _ _ _ c.requires.0.starts
    c.name_end-next.ensures c.byte_at-c.ensures
    (name_ends _ _ c.requires.1 c.requires.2 _ _ _ _ c.requires.0.starts
    c.name_end-next.ensures c.byte_at-c.ensures c.if-next-text.false) c.if-n.true)

pub overflow_cast-out : goal.overflow_cast-out
overflow_cast-out c =
    omega (arith, few_bytes (c.name_end-next.result - c.args.at) c.if-n.false)

pub bounds-out-to : goal.bounds-out-to
bounds-out-to c =
    room_byte _ _ _ _ _ _ c.requires.0 (omega arith) (omega arith)

pub overflow_add-start : goal.overflow_add-start
overflow_add-start c =
    omega (arith, room_byte _ _ _ _ _ _ c.requires.0 (omega arith) (omega arith))

pub slice_bounds-copy-end : goal.slice_bounds-copy-end
slice_bounds-copy-end c =
    name_high _ _ _ _ _ c.requires.0.starts (name_ends _ _ c.requires.1 c.requires.2 _ _ _ _
    c.requires.0.starts c.name_end-next.ensures c.byte_at-c.ensures c.if-next-text.false)

pub copy-requires : goal.copy-requires
copy-requires c =
    let k = name_known c.requires c.name_end-next.ensures c.byte_at-c.ensures
    c.if-next-text.false c.if-n.false in
    omega (
      arith,
      k.long,
      length-set c.args.out.now c.args.to (c.name_end-next.result - c.args.at),
      k.room,
    )

pub overflow_add-result : goal.overflow_add-result
overflow_add-result c =
    let k = name_known c.requires c.name_end-next.ensures c.byte_at-c.ensures
    c.if-next-text.false c.if-n.false in omega (arith, k.room)

pub shape_of-out : goal.shape_of-out
shape_of-out c =
    let k = name_known c.requires c.name_end-next.ensures c.byte_at-c.ensures
    c.if-next-text.false c.if-n.false in
    wrote_long _ _ _ _ _ (wrote_string c.args.out.now c.args.to _ _ _ k.long k.room
    c.copy.ensures) (string_fits c.args.out.now c.args.to _ _ k.long k.room)

pub returns : goal.returns
returns c =
    let k = name_known c.requires c.name_end-next.ensures c.byte_at-c.ensures
    c.if-next-text.false c.if-n.false in
    stores (pass_good (good name_refusal) (name_got _ _ _ _ _ c.requires.0.starts k.ends k.few)
    k.passes) (wrote_string c.args.out.now c.args.to _ _ _ k.long k.room
    c.copy.ensures) (name_within _ _ _ _ _ c.requires.0.starts k.ends _ k.few)
