-- `show_line` makes the readable line of a line of the table.
use native.Mathlib.Omega.{arith}
use mathlib.Core.Path.{sym}
use lib.Seq.{length-take-le}
use Rattle.readable_lines.specs.Lines.{shown_for}
use Rattle.readable_lines.proofs.Lining.{show_bad, frame_room, show_unread, show_room, show_lays, show_long}
use Rattle.readable_lines.proofs.show_line.Goals as goal

pub returns-in_default : goal.returns-in_default
returns-in_default c =
    show_bad (shown_for c.args.source) _ _ c.requires.0 _ c.read_line.ensures.value c.in_default.is

pub slice_bounds-frame-end : goal.slice_bounds-frame-end
slice_bounds-frame-end c =
    omega (
      arith,
      frame_room (shown_for c.args.source) _ _ c.requires.0 _ c.read_line.ensures.value _ c.in-Some.is _ _
          c.read_line.ensures.out_after,
      c.requires.1,
    )

pub slice_bounds-show_frame-end : goal.slice_bounds-show_frame-end
slice_bounds-show_frame-end c =
    sym (length-take-le _ _ (omega (
      arith,
      frame_room (shown_for c.args.source) _ _ c.requires.0 _ c.read_line.ensures.value _ c.in-Some.is _
          _ c.read_line.ensures.out_after,
      c.requires.1,
    )))

pub returns-in_err-end : goal.returns-in_err-end
returns-in_err-end c =
    rw c.from_residual.ensures (show_unread (shown_for c.args.source) _ _ c.requires.0 _ c.read_line.ensures.value _ c.in-Some.is _ _
    c.read_line.ensures.out_after _ _ _ c.show_frame.ensures c.in_err-end.was)

pub bounds-out-end : goal.bounds-out-end
bounds-out-end c =
    (show_room (shown_for c.args.source) _ _ c.requires.0 _ c.read_line.ensures.value _ c.in-Some.is _ _
    c.read_line.ensures.out_after _ _ _ c.show_frame.ensures _ c.in_ok-end.was c.requires.2).0

pub overflow_add-result : goal.overflow_add-result
overflow_add-result c =
    omega (
      arith,
      (show_room (shown_for c.args.source) _ _ c.requires.0 _ c.read_line.ensures.value _ c.in-Some.is _ _
          c.read_line.ensures.out_after _ _ _ c.show_frame.ensures _ c.in_ok-end.was c.requires.2).1,
    )

pub shape_of-out : goal.shape_of-out
shape_of-out c =
    show_long (shown_for c.args.source) _ _ c.requires.0 _ c.read_line.ensures.value _ c.in-Some.is _ _
    c.read_line.ensures.out_after _ _ _ c.show_frame.ensures _ c.in_ok-end.was c.requires.2

pub returns : goal.returns
returns c =
    show_lays (shown_for c.args.source) _ _ c.requires.0 _ c.read_line.ensures.value _ c.in-Some.is _ _
    c.read_line.ensures.out_after _ _ _ c.show_frame.ensures _ c.in_ok-end.was c.requires.2
