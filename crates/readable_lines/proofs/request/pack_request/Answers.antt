-- `pack_request` answers what the definition says.
use native.Mathlib.Omega.{arith}
use mathlib.Core.Path.{sym, ◌∙◌}
use borrow.Author.Tests.{not-true, not-false}
use lib.Seq.{length-take-le}
use Rattle.text.specs.Test.{whether◌then◌else◌}
use Rattle.readable_lines.specs.Steps.{parts_by, nothing}
use Rattle.readable_lines.proofs.Converting.{room_request, packed_strange, packed_unread, packed_longer}
use Rattle.readable_lines.proofs.Requests.{pack_none, request_short, request_refused, request_fills}
use Rattle.readable_lines.proofs.request.pack_request.Goals as goal

pub returns-then-not-all_print : goal.returns-then-not-all_print
returns-then-not-all_print c =
    rw (pack_none c.args.s.now (packed_strange _ _ (sym c.all_print.ensures ∙ not-true _ c.if-not-all_print.true-raw))) nothing

pub convert_parts-requires : goal.convert_parts-requires
convert_parts-requires c =
    (omega (arith, c.requires, room_request), omega arith)

pub returns-in_err-next : goal.returns-in_err-next
unfolding parts_by whether◌then◌else◌
returns-in_err-next c =
    rw (
      c.from_residual.ensures,
      pack_none c.args.s.now (packed_unread _ _
          (sym c.all_print.ensures ∙ not-false _ c.if-not-all_print.false-raw)
          c.convert_parts.ensures c.in_err-next.was),
    ) nothing

pub returns-then-next-s : goal.returns-then-next-s
unfolding parts_by whether◌then◌else◌
returns-then-next-s c =
    rw (pack_none c.args.s.now (packed_longer _ _
    (sym c.all_print.ensures ∙ not-false _ c.if-not-all_print.false-raw)
    c.convert_parts.ensures c.in_ok-next.was c.if-next-s.true)) nothing

pub slice_bounds-is_good-end : goal.slice_bounds-is_good-end
unfolding parts_by whether◌then◌else◌
slice_bounds-is_good-end c =
    omega (
      arith,
      c.requires,
      request_short c.args.s.now (sym c.all_print.ensures ∙ not-false _
          c.if-not-all_print.false-raw) c.convert_parts.ensures c.in_ok-next.was c.if-next-s.false,
    )

pub slice_bounds-is_good-end-2 : goal.slice_bounds-is_good-end-2
unfolding parts_by whether◌then◌else◌
slice_bounds-is_good-end-2 c =
    sym (length-take-le _ _ (omega (
      arith,
      c.requires,
      request_short c.args.s.now (sym c.all_print.ensures ∙ not-false _
          c.if-not-all_print.false-raw) c.convert_parts.ensures c.in_ok-next.was c.if-next-s.false,
    )))

pub returns-then-not-is_good : goal.returns-then-not-is_good
unfolding parts_by whether◌then◌else◌
returns-then-not-is_good c =
    rw (request_refused c.args.s.now (sym c.all_print.ensures ∙ not-false _
    c.if-not-all_print.false-raw) c.convert_parts.ensures c.in_ok-next.was
    c.if-next-s.false (sym c.is_good.ensures ∙ not-true _ c.if-not-is_good.true-raw)) nothing

pub returns : goal.returns
unfolding parts_by whether◌then◌else◌
returns c =
    request_fills c.args.s.now (sym c.all_print.ensures ∙ not-false _ c.if-not-all_print.false-raw)
    c.convert_parts.ensures c.in_ok-next.was c.if-next-s.false
    (sym c.is_good.ensures ∙ not-false _ c.if-not-is_good.false-raw)
