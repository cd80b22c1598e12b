use Rattle.verdict_filter.proofs.Turns.{digits_are}
use Rattle.verdict_filter.proofs.digits.Goals as goal

pub returns : goal.returns
returns c = digits_are _
