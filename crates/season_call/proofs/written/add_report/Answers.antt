-- `add_report` adds the counts, and then the cells.
use Rattle.season_call.proofs.Writing.{report_is}
use Rattle.season_call.proofs.written.add_report.Goals as goal

pub returns : goal.returns
returns g c =
    record { added = rw (c.add_lines-2.ensures.added, c.add_lines.ensures.added) (report_is c.args.text.now c.args.counts.now _) }
