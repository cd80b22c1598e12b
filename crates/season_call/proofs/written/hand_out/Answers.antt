-- `hand_out` stores the text where it fits.
use mathlib.Core.Path.{◌≡◌, ◌∙◌}
use mathlib.Core.List.{◌++◌}
use Rattle.text.specs.String.{joined}
use Rattle.season.specs.Report.{figure_line}
use Rattle.season_call.specs.Written.{cells_in}
use Rattle.season_call.proofs.Writing.{no_room, room}
use Rattle.season_call.proofs.written.hand_out.Goals as goal

pub returns-then-out-report : goal.returns-then-out-report
returns-then-out-report c =
    let e : c.as_bytes-report.result.now ≡ joined figure_line (c.args.counts.now ++ cells_in c.args.grid.now) =
    c.as_bytes-report.ensures.value ∙ rw (c.add_report.ensures.added, c.new-text.ensures) in
    let both = no_room _ e c.args.out.now c.if-out-report.true in record { value = rw c.from.ensures both.0; out_after = both.1 }

pub returns : goal.returns
returns c =
    let e : c.as_bytes-report.result.now ≡ joined figure_line (c.args.counts.now ++ cells_in c.args.grid.now) =
    c.as_bytes-report.ensures.value ∙ rw (c.add_report.ensures.added, c.new-text.ensures) in
    let both = room _ e c.args.out.now c.if-out-report.false in record { value = both.0; out_after = c.copy.ensures ∙ both.1 }
