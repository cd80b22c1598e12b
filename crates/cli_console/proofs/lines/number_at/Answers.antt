-- `number_at` counts the lines that end before the position.
use Rattle.cli_console.proofs.Numbering.{number_is}
use Rattle.cli_console.proofs.lines.number_at.Goals as goal

pub returns : goal.returns
returns c = rw (c.count_feeds.ensures.value, c.min.ensures, c.saturating_sub-last.ensures) (number_is c.args.p c.args.text.now)
