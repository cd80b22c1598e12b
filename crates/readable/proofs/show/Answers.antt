-- `show` answers and leaves what the definitions say.
use mathlib.Core.Path.{sym, ap, ◌∙◌}
use Rattle.std.specs.Prelude.{Err}
use Rattle.readable.specs.Texts.{ended_of}
use Rattle.table.specs.Checked.{checked_as}
use Rattle.readable.proofs.Calling.{accepted_short, show_refused, show_all, show_unread, show_full}
use Rattle.readable.proofs.show.Goals as goal

pub returns-in-Err : goal.returns-in-Err
returns-in-Err c =
    rw c.number.ensures (show_refused _ _ _ c.check_table-c.ensures _ _ (ap checked_as c.in-Err.is))

pub convert_lines-requires : goal.convert_lines-requires
convert_lines-requires c =
    λ z. accepted_short _ (sym c.check_table-c.ensures ∙ ap checked_as c.in_default.is)

pub returns-in-Ok : goal.returns-in-Ok
returns-in-Ok c =
    show_all _ _ _ c.check_table-c.ensures (ap checked_as c.in_default.is) _ _
    c.convert_lines.ensures.0 c.convert_lines.ensures.1 _ (ap ended_of c.in-Ok.is)

pub returns-in-Err-Unread : goal.returns-in-Err-Unread
returns-in-Err-Unread c =
    show_unread _ _ _ c.check_table-c.ensures (ap checked_as c.in_default.is) _ _
    c.convert_lines.ensures.0 c.convert_lines.ensures.1 _ (ap ended_of (c.in-Err-Unread.is ∙ ap Err c.in-Err-Unread.field-0-is))

pub returns-in-Err-Full : goal.returns-in-Err-Full
returns-in-Err-Full c =
    show_full _ _ _ c.check_table-c.ensures (ap checked_as c.in_default.is) _ _
    c.convert_lines.ensures.0 c.convert_lines.ensures.1 (ap ended_of (c.in-Err-Full.is ∙ ap Err c.in-Err-Full.field-0-is))
