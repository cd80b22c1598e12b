-- A loaded table that can be read, and what is made of it.
use Rattle.std.specs.Prelude.{◌≡◌}
use Rattle.table_membership.specs.Set.{Members}
use Rattle.table_load.specs.Loaded.{bytes}
use Rattle.table_load.specs.declared.loaded.Table.{Table}
use Rattle.verdict_judge.specs.Rules.{Safe}
use Rattle.verdict_call.specs.Holding.{RulesOf}
use Rattle.season_count.specs.declared.loaded.Loaded.{Loaded}

-- its members and rules can be read
pub record Sound (t : Table) : Type 0 where
  pub members : Members (bytes t) t.users t.owners t.counts.members
  pub rules : Safe (bytes t) t.starts t.holders t.counts.rules

-- L is that table
pub record LoadedOf (t : Table) (L : Loaded) : Type 0 where
  pub rules : RulesOf t L.rules
  pub users : L.users.now ≡ t.users
  pub owners : L.owners.now ≡ t.owners
  pub members : L.members ≡ t.counts.members
