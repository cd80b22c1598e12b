-- `subject_place` equals its definition.
use native.Mathlib.Omega.{arith}
use mathlib.Core.Path.{sym, ◌∙◌}
use Rattle.verdict_judge.proofs.Parts.{rule_room}
use Rattle.rule_index.proofs.Keying.{group_place, user_place}
use Rattle.rule_index.proofs.keys.subject_place.Goals as goal

pub returns-then-is_by_group : goal.returns-then-is_by_group
returns-then-is_by_group c = group_place _ _ _ (sym c.is_by_group.ensures ∙ c.if-is_by_group.true)

pub overflow_add-own : goal.overflow_add-own
overflow_add-own c = let own = c.args.own in let s = own.short in omega (arith, rule_room own.bytes.now own.at own.inside)

pub place_at-requires : goal.place_at-requires
place_at-requires c =
    let own = c.args.own in (omega (arith, (rule_room own.bytes.now own.at own.inside).1), c.requires)

pub returns : goal.returns
returns c = c.place_at.ensures ∙ user_place _ _ _ (sym c.is_by_group.ensures ∙ c.if-is_by_group.false)
