-- `is_open` is the definition.
use Rattle.cli_console.proofs.Numbering.{unended_is}
use Rattle.cli_console.proofs.lines.is_open.Goals as goal

pub returns : goal.returns
returns c = unended_is c.start.ensures _ c.find.ensures
