use native.Mathlib.Omega.{arith}
use Rattle.table_check.proofs.Calls.{outcome_refused, outcome_kept}
use Rattle.table_facts.specs.Facts.{name_of}
use Rattle.table_facts.proofs.Names.{wrote_none, group_name, rule_id, identified}
use Rattle.table_facts.proofs.name_of.Goals as goal

pub returns-in_default : goal.returns-in_default
unfolding name_of
returns-in_default c =
    rw (← outcome_refused _ _ _ c.load.ensures _ c.in_default.is) (wrote_none _)

pub copy_name-requires : goal.copy_name-requires
copy_name-requires c =
    let h = (outcome_kept _ _ _ c.load.ensures c.in-Ok.is).holds in
    rw c.bytes-f.ensures (record { laid = h.groups_laid; room = omega (arith, h.long.of_groups, h.few.0) })

pub copy_id-requires : goal.copy_id-requires
copy_id-requires c = rw c.bytes-f.ensures (identified (outcome_kept _ _ _ c.load.ensures c.in-Ok.is))

pub returns-in-Group : goal.returns-in-Group
returns-in-Group c =
    rw (c.in-Group.is, ← group_name (outcome_kept _ _ _ c.load.ensures c.in-Ok.is) _, ← c.bytes-f.ensures) c.copy_name.ensures

pub returns-in-Rule : goal.returns-in-Rule
returns-in-Rule c =
    rw (c.in-Rule.is, ← rule_id (outcome_kept _ _ _ c.load.ensures c.in-Ok.is) _, ← c.bytes-f.ensures) c.copy_id.ensures
