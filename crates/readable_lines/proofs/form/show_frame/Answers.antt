-- `show_frame` answers what the definition says.
use native.Mathlib.Omega.{arith}
use Rattle.readable_lines.specs.Steps.{nothing}
use Rattle.readable_lines.proofs.Converting.{frame_empty, shown_room, frame_fills}
use Rattle.readable_lines.proofs.form.show_frame.Goals as goal

pub returns-then-f-eq0 : goal.returns-then-f-eq0
returns-then-f-eq0 c =
    rw (frame_empty c.args.f.now (omega (arith, c.if-f-eq0.true))) nothing

pub close_shown-requires : goal.close_shown-requires
close_shown-requires c =
    shown_room _ _ _ c.by_kind-shown.ensures c.requires

pub returns : goal.returns
returns c =
    rw c.close_shown.ensures (frame_fills _ c.by_kind-shown.ensures)
