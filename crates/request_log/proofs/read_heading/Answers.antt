-- `read_heading` tells what `heading` reads.
use native.Mathlib.Omega.{arith}
use Rattle.text.proofs.Frames.{string_ends, string_misses}
use Rattle.request_log.proofs.Headings.{no_mode, no_user, no_origin, head_read, head_unread, head_at}
use Rattle.request_log.proofs.read_heading.Goals as goal

pub returns-in_err-mode : goal.returns-in_err-mode
returns-in_err-mode c = rw c.from_residual.ensures (head_unread _ (no_mode _ (omega (arith, c.in_err-mode.ensures.item.3))))

pub returns-in_err-origin : goal.returns-in_err-origin
returns-in_err-origin c =
    rw c.from_residual-in_err-origin.ensures
    (head_unread _ (no_user _ c.in_ok-mode.ensures.item.3.0 (string_misses _ _ _ c.string_end.ensures c.in_err-origin.was)))

pub returns-in_err-path : goal.returns-in_err-path
returns-in_err-path c =
    let u = string_ends _ _ _ c.string_end.ensures _ c.in_ok-origin.was in
    rw c.from_residual-in_err-path.ensures
    (head_unread _ (no_origin _ c.in_ok-mode.ensures.item.3.0 _ u.0 (string_misses _ _ _ c.string_end-2.ensures c.in_err-path.was)))

pub slice_bounds-user-count : goal.slice_bounds-user-count
slice_bounds-user-count c = (string_ends _ _ _ c.string_end.ensures _ c.in_ok-origin.was).1

pub slice_bounds-user-start : goal.slice_bounds-user-start
slice_bounds-user-start c = (string_ends _ _ _ c.string_end.ensures _ c.in_ok-origin.was).1

pub slice_bounds-user-end : goal.slice_bounds-user-end
slice_bounds-user-end c = (string_ends _ _ _ c.string_end.ensures _ c.in_ok-origin.was).2

pub slice_bounds-check-count : goal.slice_bounds-check-count
slice_bounds-check-count c = (string_ends _ _ _ c.string_end-2.ensures _ c.in_ok-path.was).1

pub slice_bounds-check-start : goal.slice_bounds-check-start
slice_bounds-check-start c = (string_ends _ _ _ c.string_end-2.ensures _ c.in_ok-path.was).1

pub slice_bounds-check-end : goal.slice_bounds-check-end
slice_bounds-check-end c = (string_ends _ _ _ c.string_end-2.ensures _ c.in_ok-path.was).2

pub returns : goal.returns
returns c =
    let u = string_ends _ _ _ c.string_end.ensures _ c.in_ok-origin.was in
    let o = string_ends _ _ _ c.string_end-2.ensures _ c.in_ok-path.was in
    head_at c.args.f.now _ _ u.1 u.2 _ (rw (← c.in_ok-mode.ensures.item.3.1 0) c.check-refusal.ensures) _ (head_read _ c.in_ok-mode.ensures.item.3.0 _ u.0 _ o.0)
