-- `pack_line` makes the table's line of a readable line.
use native.Mathlib.Omega.{arith}
use mathlib.Core.Path.{sym}
use lib.Seq.{length-take-le}
use Rattle.readable_lines.specs.Lines.{packed_for}
use Rattle.readable_lines.proofs.Lining.{pack_open, pack_unread, pack_end, pack_fits, pack_room, pack_long, pack_lays}
use Rattle.readable_lines.proofs.pack_line.Goals as goal

pub returns-then-text-stop : goal.returns-then-text-stop
returns-then-text-stop c =
    pack_open (packed_for c.args.source) c.args.text.now c.args.from c.requires.0 _
    c.find-stop.ensures c.if-text-stop.true

pub returns-in_err-end : goal.returns-in_err-end
returns-in_err-end c =
    rw c.from_residual.ensures (pack_unread (packed_for c.args.source) c.args.text.now c.args.from c.requires.0 _ c.find-stop.ensures
    c.if-text-stop.false _ _ _ c.pack_frame.ensures c.in_err-end.was)

pub slice_bounds-frame-end : goal.slice_bounds-frame-end
slice_bounds-frame-end c =
    omega (
      arith,
      pack_end (packed_for c.args.source) c.args.text.now c.args.from c.requires.0 _ c.find-stop.ensures
          c.if-text-stop.false _ _ _ c.pack_frame.ensures _ c.in_ok-end.was c.args.out.now c.requires.1,
    )

pub slice_bounds-write_hex-end : goal.slice_bounds-write_hex-end
slice_bounds-write_hex-end c =
    sym (length-take-le _ _ (omega (
      arith,
      pack_end (packed_for c.args.source) c.args.text.now c.args.from c.requires.0 _ c.find-stop.ensures
          c.if-text-stop.false _ _ _ c.pack_frame.ensures _ c.in_ok-end.was c.args.out.now c.requires.1,
    )))

pub write_hex-close-requires : goal.write_hex-close-requires
write_hex-close-requires c =
    pack_fits (packed_for c.args.source) c.args.text.now c.args.from c.requires.0 _ c.find-stop.ensures
    c.if-text-stop.false _ _ _ c.pack_frame.ensures _ c.in_ok-end.was c.args.out.now c.requires.1

pub bounds-out-close : goal.bounds-out-close
bounds-out-close c =
    (pack_room (packed_for c.args.source) c.args.text.now c.args.from c.requires.0 _ c.find-stop.ensures
    c.if-text-stop.false _ _ _ c.pack_frame.ensures _ c.in_ok-end.was
    c.args.out.now c.requires.1 _ _ c.write_hex-close.ensures).0

pub overflow_add-result-2 : goal.overflow_add-result-2
overflow_add-result-2 c =
    omega (
      arith,
      (pack_room (packed_for c.args.source) c.args.text.now c.args.from c.requires.0 _
          c.find-stop.ensures c.if-text-stop.false _ _ _ c.pack_frame.ensures _
          c.in_ok-end.was c.args.out.now c.requires.1 _ _ c.write_hex-close.ensures).1,
    )

pub shape_of-out : goal.shape_of-out
shape_of-out c =
    pack_long (packed_for c.args.source) c.args.text.now c.args.from c.requires.0 _ c.find-stop.ensures
    c.if-text-stop.false _ _ _ c.pack_frame.ensures _ c.in_ok-end.was
    c.args.out.now c.requires.1 _ _ c.write_hex-close.ensures

pub returns : goal.returns
returns c =
    pack_lays (packed_for c.args.source) c.args.text.now c.args.from c.requires.0 _ c.find-stop.ensures
    c.if-text-stop.false _ _ _ c.pack_frame.ensures _ c.in_ok-end.was
    c.args.out.now c.requires.1 _ _ c.write_hex-close.ensures
