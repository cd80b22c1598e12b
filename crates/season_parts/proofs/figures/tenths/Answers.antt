-- `tenths` is the definition.
use Rattle.std.proofs.Common.{◌∙◌}
use Rattle.season_parts.specs.Figures.{tenths}
use Rattle.season_parts.proofs.Quotients.{quotient}
use Rattle.season_parts.proofs.figures.tenths.Goals as goal

pub returns : goal.returns
unfolding tenths
returns c = c.unwrap_or.ensures ∙ quotient c.checked_div.result _ c.args.all c.checked_div.ensures
