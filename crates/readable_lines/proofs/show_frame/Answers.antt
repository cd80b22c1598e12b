-- `show_frame` goes by the kind of text.
use Rattle.readable_lines.specs.Lines.{shown_for}
use Rattle.readable_lines.proofs.show_frame.Goals as goal

pub returns-in-Table : goal.returns-in-Table
unfolding shown_for
returns-in-Table c = rw c.in-Table.is c.show_frame.ensures

pub returns-in-Log : goal.returns-in-Log
unfolding shown_for
returns-in-Log c = rw c.in-Log.is c.show_request.ensures
