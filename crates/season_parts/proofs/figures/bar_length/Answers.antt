-- `bar_length` is the definition.
use Rattle.season_parts.proofs.Quotients.{bar_is}
use Rattle.season_parts.proofs.figures.bar_length.Goals as goal

pub returns-clause-value : goal.returns-clause-value
returns-clause-value c =
    rw (c.clamp.ensures, c.unwrap_or-columns.ensures) (bar_is c.checked_div.result c.args.n c.args.most c.checked_div.ensures)
