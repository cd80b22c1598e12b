-- What a look at a table text tells.
use Rattle.std.specs.Prelude.{ℕ, ◌≤◌, ◌≡◌, length, Result, Ok, Err}
use Rattle.limits.specs.Limits.{max_groups}
use Rattle.text.specs.String.{Str}
use Rattle.table.specs.Text.{check, table_of}
use Rattle.table.specs.Group.{group_count}
use Rattle.table.specs.Checked as checked
use Rattle.table_load.specs.declared.row.Counts.{Counts}
use Rattle.table_membership.specs.Set.{UserGroups, count_in}
use Rattle.table_check.specs.declared.Seen.{Seen}
use Rattle.refusal.specs.Refusal.{number}
use Rattle.refusal.specs.declared.fault.Fault.{Fault}

-- of an accepted text: how many rows of each kind it has, which groups list the user, and what the group count answers
pub record TableTold (text user : Str) (c : Counts) (set : ℕ) : Type 0 where
  pub accepts : check text ≡ checked.Accepted
  pub groups : c.groups ≡ length (table_of text).groups
  pub few : c.groups ≤ max_groups
  pub members : c.members ≡ length (table_of text).members
  pub rules : c.rules ≡ length (table_of text).rules
  pub has : UserGroups (table_of text) user set
  pub count : count_in user set ≡ group_count text user

-- what the answer says of the text
unfoldable pub Looked : Str → Str → Result Seen Fault → Type 0
Looked text user (Ok s) = TableTold text user s.counts s.set
Looked text user (Err f) = check text ≡ checked.Refused (number f.refusal) f.line
