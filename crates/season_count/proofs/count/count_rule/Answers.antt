-- `count_rule` raises the place of its definition.
use mathlib.Core.Path.{ap, ◌∙◌}
use Rattle.verdict_request.specs.Answers.{on_path}
use Rattle.season_count.specs.Counts.{raised_by, Placed}
use Rattle.season_count.proofs.Raising.{raised_as, placed_as}
use Rattle.season_count.proofs.count.count_rule.Goals as goal

pub raise-requires : goal.raise-requires
unfolding Placed
raise-requires c =
    (placed_as _ _ (ap on_path c.in-Permit.is) c.requires.0, c.requires.1 _)

pub raise-requires-in-Deny : goal.raise-requires-in-Deny
unfolding Placed
raise-requires-in-Deny c =
    (placed_as _ _ (ap on_path c.in-Deny.is) c.requires.0, c.requires.1 _)

pub returns-in-Permit : goal.returns-in-Permit
unfolding raised_by
returns-in-Permit c = c.raise.ensures ∙ raised_as _ _ (ap on_path c.in-Permit.is) _

pub returns-in-Deny : goal.returns-in-Deny
unfolding raised_by
returns-in-Deny c = c.raise-in-Deny.ensures ∙ raised_as _ _ (ap on_path c.in-Deny.is) _

pub returns-in-Default : goal.returns-in-Default
unfolding raised_by
returns-in-Default c = raised_as _ _ (ap on_path c.in-Default.is) _
