-- `close_shown` keeps what is whole and prints.
use mathlib.Core.Path.{sym, ◌∙◌}
use borrow.Author.Tests.{eq-eqb, ne_eqb}
use lib.Seq.{length-take-le}
use Rattle.text.specs.Test.{◌and◌, whether◌then◌else◌}
use Rattle.readable_lines.specs.Steps.{stored_end, closed}
use Rattle.readable_lines.proofs.form.close_shown.Goals as goal

pub returns-in_err-stored : goal.returns-in_err-stored
unfolding closed
returns-in_err-stored c = rw (c.from_residual.ensures, c.in_err-stored.was)

pub returns-then-stored-size : goal.returns-then-stored-size
unfolding closed ◌and◌ whether◌then◌else◌
returns-then-stored-size c = rw (c.in_ok-stored.was, ne_eqb _ _ c.if-stored-size.true)

pub slice_bounds-all_print-end : goal.slice_bounds-all_print-end
unfolding stored_end
slice_bounds-all_print-end c =
    let h = rw c.in_ok-stored.was at c.requires in sym (length-take-le _ _ h)

pub returns-then-all_print : goal.returns-then-all_print
unfolding closed ◌and◌ whether◌then◌else◌
returns-then-all_print c =
    rw (c.in_ok-stored.was, eq-eqb _ _ c.if-stored-size.false, sym c.all_print.ensures ∙ c.if-all_print.true)

pub returns-else-all_print : goal.returns-else-all_print
unfolding closed ◌and◌ whether◌then◌else◌
returns-else-all_print c =
    rw (c.in_ok-stored.was, eq-eqb _ _ c.if-stored-size.false, sym c.all_print.ensures ∙ c.if-all_print.false)
