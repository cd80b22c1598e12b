-- `report` answers by the table's refusal, the log's, or the text of the counts.
use mathlib.Core.Path.{sym}
use Rattle.refusal.proofs.Numbers.{err_is}
use Rattle.table_check.proofs.Calls.{outcome_refused, outcome_kept}
use Rattle.season_call.proofs.Reporting.{sound, is_table, nothing_remembered, lines_counted, lines_refused, whole_log, whole_refused, table_refused, log_refusal, reported}
use Rattle.season_call.proofs.report.Goals as goal

pub returns-in_err-load : goal.returns-in_err-load
returns-in_err-load c =
    let both = table_refused _ c.args.log.now c.args.out.now _ _ (sym (outcome_refused _ _ _ c.load.ensures _ c.in_err-load.was)) in
    record { value = rw (err_is c.from_residual.result _ c.from_residual.ensures.1) both.0; out_after = both.1 }

pub of-requires : goal.of-requires
of-requires c = sound (outcome_kept _ _ _ c.load.ensures c.in_ok-load.was)

pub count_lines-requires : goal.count_lines-requires
count_lines-requires c = nothing_remembered _ _ c.new-run.ensures

pub returns-in_err-count_lines : goal.returns-in_err-count_lines
returns-in_err-count_lines c =
    let K = outcome_kept _ _ _ c.load.ensures c.in_ok-load.was in
    let both = log_refusal _ c.args.log.now c.args.out.now K.accepts _ _
    (whole_refused c.new-tally.result c.new-tally.ensures c.of.result _ c.count_lines.new.run c.count_lines.new.tally
    (lines_refused _ _ _ _ _ _ c.count_lines.ensures _ c.in_err-count_lines.was)) in
    record { value = rw (err_is c.from_residual-in_err-count_lines.result _ c.from_residual-in_err-count_lines.ensures.1) both.0; out_after = both.1 }

pub returns : goal.returns
returns c =
    let K = outcome_kept _ _ _ c.load.ensures c.in_ok-load.was in
    let counted = whole_log c.new-tally.result c.new-tally.ensures c.of.result _ c.count_lines.new.run c.count_lines.new.tally
    (lines_counted _ _ _ _ _ _ c.count_lines.ensures _ c.in_ok-count_lines.was) in
    let both = reported _ _ _ K.accepts counted.accepted c.count_lines.new.tally (counted.counts_are _ (is_table K c.of.result c.of.ensures))
    _ _ c.hand_out.ensures.value c.hand_out.ensures.out_after in record { value = both.0; out_after = both.1 }
