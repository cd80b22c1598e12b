-- `step_name` is the definition.
use Rattle.cli_explained.specs.Explained.{step_name}
use Rattle.cli_explained.proofs.step_name.Goals as goal

pub returns-in-Elements-clause-value : goal.returns-in-Elements-clause-value
unfolding step_name
returns-in-Elements-clause-value c = rw c.in-Elements.is

pub returns-in-Keys-clause-value : goal.returns-in-Keys-clause-value
unfolding step_name
returns-in-Keys-clause-value c = rw c.in-Keys.is

pub returns-in-Subject-clause-value : goal.returns-in-Subject-clause-value
unfolding step_name
returns-in-Subject-clause-value c = rw c.in-Subject.is

pub returns-in-Action-clause-value : goal.returns-in-Action-clause-value
unfolding step_name
returns-in-Action-clause-value c = rw c.in-Action.is

pub returns-in-Id-clause-value : goal.returns-in-Id-clause-value
unfolding step_name
returns-in-Id-clause-value c = rw c.in-Id.is
