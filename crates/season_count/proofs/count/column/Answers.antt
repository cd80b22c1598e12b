-- `column` equals its definition.
use Rattle.season_count.specs.Counts.{column_of}
use Rattle.season_count.proofs.count.column.Goals as goal

pub returns-in-Permit : goal.returns-in-Permit
unfolding column_of
returns-in-Permit c = rw c.in-Permit.is

pub returns-in-Deny : goal.returns-in-Deny
unfolding column_of
returns-in-Deny c = rw c.in-Deny.is

pub returns-in-Default : goal.returns-in-Default
unfolding column_of
returns-in-Default c = rw c.in-Default.is
