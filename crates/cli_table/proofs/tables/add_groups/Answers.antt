-- `add_groups` lists the groups of an accepted table.
use native.Mathlib.Omega.{arith}
use Rattle.table_check.proofs.Calls.{look_told, look_refused}
use Rattle.cli_table.proofs.Groups.{groups_listed, no_table}
use Rattle.cli_table.proofs.tables.add_groups.Goals as goal

pub returns-in_default : goal.returns-in_default
returns-in_default c = no_table _ _ _ _ (look_refused _ _ _ c.look.ensures _ c.in_default.is)

pub add_groups-requires : goal.add_groups-requires
add_groups-requires c =
    let few = (look_told _ _ _ c.look.ensures _ c.in-Ok.is).few in (omega arith, (few, omega (arith, few, c.requires)))

pub returns : goal.returns
returns c = groups_listed _ _ _ _ (look_told _ _ _ c.look.ensures _ c.in-Ok.is) c.add_groups.ensures
