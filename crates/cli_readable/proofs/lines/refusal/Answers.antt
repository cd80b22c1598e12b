-- `refusal` is the definition.
use mathlib.Core.List.{append_assoc}
use Rattle.cli_readable.specs.Lines.{refusal_line}
use Rattle.cli_readable.proofs.lines.refusal.Goals as goal

pub returns-in-Refused : goal.returns-in-Refused
unfolding refusal_line
returns-in-Refused c = rw c.in-Refused.is c.line.ensures

pub returns-in-Unread : goal.returns-in-Unread
unfolding refusal_line
returns-in-Unread c = rw c.in-Unread.is (simp (append_assoc, c.of-text.ensures, c.add_place.ensures.added, c.push_str.ensures))

pub returns-in-NoRoom : goal.returns-in-NoRoom
unfolding refusal_line
returns-in-NoRoom c = rw c.in-NoRoom.is c.of.ensures
