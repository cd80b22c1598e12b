-- `turn_to` remembers the heading of the frame.
use native.Mathlib.Omega.{arith}
use mathlib.Core.Path.{refl, sym, ap, ◌∙◌}
use lib.ListN.{length}
use lib.Seq.{length-take-le}
use Rattle.text.proofs.Filling.{put_length}
use Rattle.refusal.proofs.Numbers.{code_none, code_err}
use Rattle.request_log.proofs.Headings.{head_told, head_missed, no_heading, bad_heading}
use Rattle.season_count.specs.Loaded.{Headed}
use Rattle.season_count.proofs.Runs.{again, key_room, turned}
use Rattle.season_count.proofs.run.Run.turn_to.Goals as goal

pub returns-then-is_of : goal.returns-then-is_of
unfolding Headed
returns-then-is_of c = again _ c.requires _ (sym c.is_of.ensures ∙ c.if-is_of.true)

pub returns-in_err-heading : goal.returns-in_err-heading
unfolding Headed
returns-in_err-heading c = rw c.from_residual.ensures (no_heading _ (head_missed _ _ c.read_heading.ensures c.in_err-heading.was))

pub returns-then-is_err : goal.returns-then-is_err
unfolding Headed
returns-then-is_err c =
    let at = head_told _ _ c.read_heading.ensures _ c.in_ok-heading.was in
    bad_heading _ _ _ at.reads (λ z. code_err _ (sym c.is_err.ensures.value ∙ c.if-is_err.true) (at.number ∙ z))

pub overflow_add-start : goal.overflow_add-start
overflow_add-start c =
    let at = head_told _ _ c.read_heading.ensures _ c.in_ok-heading.was in omega (arith, at.origin_ends, at.within)

pub slice_bounds-user-count : goal.slice_bounds-user-count
slice_bounds-user-count c =
    let at = head_told _ _ c.read_heading.ensures _ c.in_ok-heading.was in omega (arith, at.user_ends)

pub slice_bounds-user-start : goal.slice_bounds-user-start
slice_bounds-user-start c =
    let at = head_told _ _ c.read_heading.ensures _ c.in_ok-heading.was in omega (arith, at.user_ends)

pub slice_bounds-user-end : goal.slice_bounds-user-end
slice_bounds-user-end c =
    let at = head_told _ _ c.read_heading.ensures _ c.in_ok-heading.was in omega (arith, at.origin_ends, at.within)

pub bounds-frame-0 : goal.bounds-frame-0
bounds-frame-0 c =
    let at = head_told _ _ c.read_heading.ensures _ c.in_ok-heading.was in at.some_bytes

pub slice_bounds-asker-count : goal.slice_bounds-asker-count
slice_bounds-asker-count c =
    let at = head_told _ _ c.read_heading.ensures _ c.in_ok-heading.was in omega (arith, at.origin_ends)

pub slice_bounds-asker-start : goal.slice_bounds-asker-start
slice_bounds-asker-start c =
    let at = head_told _ _ c.read_heading.ensures _ c.in_ok-heading.was in omega (arith, at.origin_ends)

pub slice_bounds-asker-end : goal.slice_bounds-asker-end
slice_bounds-asker-end c =
    let at = head_told _ _ c.read_heading.ensures _ c.in_ok-heading.was in omega (arith, at.within)

pub slice_bounds-copy-end : goal.slice_bounds-copy-end
slice_bounds-copy-end c =
    let at = head_told _ _ c.read_heading.ensures _ c.in_ok-heading.was in sym (length-take-le _ _ at.within)

pub copy-requires : goal.copy-requires
copy-requires c =
    let at = head_told _ _ c.read_heading.ensures _ c.in_ok-heading.was in
    key_room at (code_none _ (sym c.is_err.ensures.value ∙ c.if-is_err.false)) c.args.self.now.key (omega arith)

pub invariant_of-self : goal.invariant_of-self
invariant_of-self c =
    let at = head_told _ _ c.read_heading.ensures _ c.in_ok-heading.was in
    let room = key_room at (code_none _ (sym c.is_err.ensures.value ∙ c.if-is_err.false)) c.args.self.now.key (omega arith) in
    record {
      within = omega (arith, room, length-take-le _ _ at.within, ap length c.copy.ensures, put_length c.args.self.now.key 0 _ room);
    }

pub returns : goal.returns
unfolding Headed
returns c =
    let at = head_told _ _ c.read_heading.ensures _ c.in_ok-heading.was in
    turned _ at (code_none _ (sym c.is_err.ensures.value ∙ c.if-is_err.false)) _ refl _ c.copy.ensures _ c.memberships.ensures c.mark.ensures.marks
