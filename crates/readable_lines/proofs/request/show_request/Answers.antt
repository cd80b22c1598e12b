-- `show_request` answers what the definition says.
use native.Mathlib.Omega.{arith}
use mathlib.Core.Bool.{false}
use mathlib.Core.Path.{refl, sym, ◌∙◌}
use borrow.Author.Tests.{not-true, not-false}
use Rattle.text.specs.Test.{whether◌then◌else◌}
use Rattle.readable_parts.proofs.Stored.{put_by}
use Rattle.readable_lines.specs.Form.{parts, request_form}
use Rattle.readable_parts.specs.declared.Direction.TheVariants.{Show}
use Rattle.readable_lines.specs.Steps.{parts_by, nothing}
use Rattle.readable_lines.proofs.Converting.{room_request, shown_room, shown_fills}
use Rattle.readable_lines.proofs.Requests.{request_bad, request_shown}
use Rattle.readable_lines.proofs.request.show_request.Goals as goal

pub returns-then-not-is_good : goal.returns-then-not-is_good
returns-then-not-is_good c =
    rw (request_bad c.args.f.now (sym c.is_good.ensures ∙ not-true _ c.if-not-is_good.true-raw)) nothing

pub convert_parts-shown-requires : goal.convert_parts-shown-requires
convert_parts-shown-requires c =
    (omega (arith, c.requires, room_request), omega arith)

pub close_shown-requires : goal.close_shown-requires
close_shown-requires c =
    shown_room (parts (parts_by Show) request_form) _ _ (put_by _ _ c.convert_parts-shown.ensures refl room_request) c.requires

pub returns : goal.returns
unfolding parts_by whether◌then◌else◌
returns c =
    rw (c.close_shown.ensures, request_shown c.args.f.now (sym c.is_good.ensures ∙ not-false _ c.if-not-is_good.false-raw))
    (shown_fills _ _ _ (put_by _ _ c.convert_parts-shown.ensures refl room_request))
