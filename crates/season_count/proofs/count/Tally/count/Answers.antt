-- `Tally::count`: no count is raised by more than one.
use native.Mathlib.Omega.{arith}
use Rattle.verdict_request.specs.Answers.{on_path}
use Rattle.season_count.proofs.Raising.{still_low}
use Rattle.season_count.proofs.count.Tally.count.Goals as goal

pub invariant_of-self : goal.invariant_of-self
invariant_of-self c =
    record {
      low = rw (c.count_rule.ensures, c.count_cell.ensures) (still_low _ _ _ c.args.self.now.low c.args.mode (on_path c.args.answer));
      few = omega arith;
    }
