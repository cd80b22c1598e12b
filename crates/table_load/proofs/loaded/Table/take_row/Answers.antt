-- `take_row` equals its definition: each kind by its own function.
use native.Mathlib.Omega.{arith}
use mathlib.Core.Path.{refl, sym}
use Rattle.table_load.proofs.Rows.{front_long, both_room, part_some, lookup, group_ready, member_ready, rule_ready, row_version, row_group, row_member, row_rule, row_unknown}
use Rattle.table_load.proofs.loaded.Table.take_row.Goals as goal

pub slice_bounds-old-end : goal.slice_bounds-old-end
slice_bounds-old-end c = sym (front_long _ _ _ c.requires.used_lt_end)

pub invariant_of-row : goal.invariant_of-row
invariant_of-row c = record { room = both_room _ _ _ c.requires.used_lt_end }

pub invariant_of-groups : goal.invariant_of-groups
invariant_of-groups c = record { groups = lookup c.requires.held.1 }

pub bounds-f-0 : goal.bounds-f-0
bounds-f-0 c = part_some _ _ _ c.requires.used_lt_end

pub version_number-requires : goal.version_number-requires
version_number-requires c =
    (part_some _ _ _ c.requires.used_lt_end, c.in-1.is)

pub returns-in-1-clause-row : goal.returns-in-1-clause-row
returns-in-1-clause-row c =
    λ b H. row_version H _ _ c.in-1.is c.version_number.ensures.value c.version_number.ensures.f_value

pub take_group-requires : goal.take_group-requires
take_group-requires c =
    group_ready c.requires.held.1 _ (part_some _ _ _ c.requires.used_lt_end) c.in-2.is

pub returns-in-2-clause-row : goal.returns-in-2-clause-row
returns-in-2-clause-row c =
    λ b H. row_group H _ _ c.in-2.is c.take_group.ensures.value c.take_group.ensures.group_kept

pub take_member-requires-clause-ready : goal.take_member-requires-clause-ready
take_member-requires-clause-ready c =
    member_ready c.requires.held.1 _ (part_some _ _ _ c.requires.used_lt_end) c.in-3.is

pub returns-in-3-clause-row : goal.returns-in-3-clause-row
returns-in-3-clause-row c =
    λ b H. row_member H _ _ c.in-3.is c.take_member.ensures.value c.take_member.ensures.member_kept

pub take_rule-requires-clause-ready : goal.take_rule-requires-clause-ready
take_rule-requires-clause-ready c =
    rule_ready c.requires.held.1 _ (part_some _ _ _ c.requires.used_lt_end) c.in-4.is

pub returns-in-4-clause-row : goal.returns-in-4-clause-row
returns-in-4-clause-row c =
    λ b H. row_rule H _ _ c.in-4.is c.take_rule.ensures.value c.take_rule.ensures.rule_kept

pub returns-in_default-clause-row : goal.returns-in_default-clause-row
returns-in_default-clause-row c =
    λ b H. (
      row_unknown b _ _ (part_some _ _ _ c.requires.used_lt_end) refl (λ e. absurd (omega arith))
          (λ e. absurd (omega arith)) (λ e. absurd (omega arith)) (λ e. absurd (omega arith)),
      λ x. absurd (omega arith),
    )
