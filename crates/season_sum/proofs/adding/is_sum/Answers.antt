use Rattle.season_sum.proofs.Sums.{sum_fits}
use Rattle.std.proofs.Common.{rules}
use Rattle.season_sum.proofs.adding.is_sum.Goals as goal

pub returns : goal.returns
returns c = sum_fits c.args.a _ (search rules)
