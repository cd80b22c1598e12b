-- `convert_line` goes by the direction.
use Rattle.readable_lines.specs.Lines.{line_by}
use Rattle.readable_lines.proofs.convert_line.Goals as goal

pub show_line-requires : goal.show_line-requires
show_line-requires c = (c.requires.0, c.requires.1 c.in-Show.is, c.requires.2)

pub returns-in-Show : goal.returns-in-Show
unfolding line_by
returns-in-Show c = rw c.in-Show.is c.show_line.ensures

pub returns-in-Pack : goal.returns-in-Pack
unfolding line_by
returns-in-Pack c = rw c.in-Pack.is c.pack_line.ensures
