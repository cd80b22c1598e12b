-- `pack_frame` goes by the kind of text.
use Rattle.readable_lines.specs.Lines.{packed_for}
use Rattle.readable_lines.proofs.pack_frame.Goals as goal

pub returns-in-Table : goal.returns-in-Table
unfolding packed_for
returns-in-Table c = rw c.in-Table.is c.pack_frame.ensures

pub returns-in-Log : goal.returns-in-Log
unfolding packed_for
returns-in-Log c = rw c.in-Log.is c.pack_request.ensures
