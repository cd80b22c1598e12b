-- `by_kind` goes by the form of the kind.
use native.Mathlib.Omega.{arith}
use Rattle.std.proofs.Common.{rules}
use Rattle.readable_parts.specs.Steps.{stops}
use Rattle.readable_parts.proofs.Stored.{put_by}
use Rattle.readable_lines.proofs.Converting.{kind_version_lem, kind_group_lem, kind_member_lem, kind_rule_lem, kind_none, room_version, room_group, room_member, room_rule}
use Rattle.readable_lines.proofs.form.by_kind.Goals as goal

pub convert_parts-requires : goal.convert_parts-requires
convert_parts-requires c =
    (omega (arith, c.requires.0, room_version), c.requires.1)

pub returns-in-1 : goal.returns-in-1
returns-in-1 c =
    put_by _ _ c.convert_parts.ensures (kind_version_lem _ _ _ _ c.in-1.is) room_version

pub convert_parts-requires-in-2 : goal.convert_parts-requires-in-2
convert_parts-requires-in-2 c =
    (omega (arith, c.requires.0, room_group), c.requires.1)

pub returns-in-2 : goal.returns-in-2
returns-in-2 c =
    put_by _ _ c.convert_parts-in-2.ensures (kind_group_lem _ _ _ _ c.in-2.is) room_group

pub convert_parts-requires-in-3 : goal.convert_parts-requires-in-3
convert_parts-requires-in-3 c =
    (omega (arith, c.requires.0, room_member), c.requires.1)

pub returns-in-3 : goal.returns-in-3
returns-in-3 c =
    put_by _ _ c.convert_parts-in-3.ensures (kind_member_lem _ _ _ _ c.in-3.is) room_member

pub convert_parts-requires-in-4 : goal.convert_parts-requires-in-4
convert_parts-requires-in-4 c =
    (omega (arith, c.requires.0, room_rule), c.requires.1)

pub returns-in-4 : goal.returns-in-4
returns-in-4 c =
    put_by _ _ c.convert_parts-in-4.ensures (kind_rule_lem _ _ _ _ c.in-4.is) room_rule

pub returns-in_default : goal.returns-in_default
returns-in_default c = stops (search (rules, kind_none))
